-- Distinct elements, and where they first stand.
use Rattle.std.specs.Prelude.{◌≡◌, ℕ, List, [], ◌∷◌, ◌++◌, Bool, cond, map}
use Rattle.base_row_laws.specs.Bags.{has, each_once}
use Rattle.base_row_laws.specs.Numbers.{place_in}

-- the list with x after it, where x doesn't stand there yet
abbrev pub added : {X : Type 0} → (X → X → Bool) → List X → X → List X
added same ds x = cond (has same x ds) ds (ds ++ x ∷ [])

-- the first place of each distinct element, in the order of these places
abbrev pub first_places : {X : Type 0} → (X → X → Bool) → List X → List ℕ
first_places same xs = map (place_in same xs) (each_once same xs)

-- no two elements are the same
abbrev pub AreDistinct : {X : Type 0} → (X → X → Bool) → List X → Type 0
AreDistinct same ds = each_once same ds ≡ ds
