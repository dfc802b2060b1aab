-- Numbers of elements: equal ones exactly for identical elements, in the order of first
-- occurrences.
use Rattle.std.specs.Prelude.{ℕ, suc, List, [], ◌∷◌, Bool, cond, map}
use Rattle.base_row_laws.specs.Bags.{each_once}

-- the first place of x, or where it is not there the length
abbrev pub place_in : {X : Type 0} → (X → X → Bool) → List X → X → ℕ
place_in same [] x = 0
place_in same (d ∷ ds) x = cond (same x d) 0 (suc (place_in same ds x))

-- each element's number: its place among the distinct elements in the order of their first
-- occurrences
abbrev pub numbers_of : {X : Type 0} → (X → X → Bool) → List X → List ℕ
numbers_of same xs = map (place_in same (each_once same xs)) xs
