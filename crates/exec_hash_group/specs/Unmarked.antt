-- What is left of a list without its marked elements.
use Rattle.std.specs.Prelude.{Bool, cond, List, [], ◌∷◌}

-- the elements whose places aren't marked
abbrev pub unmarked : {A : Type 0} → List Bool → List A → List A
unmarked [] xs = xs
unmarked (m ∷ ms) [] = []
unmarked (m ∷ ms) (x ∷ xs) = cond m (unmarked ms xs) (x ∷ unmarked ms xs)
