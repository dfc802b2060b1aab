-- Two lists together.
use Rattle.std.specs.Prelude.{List, [], ◌∷◌}

-- what f makes of the elements of two lists, place by place
abbrev pub zip_with : {A B C : Type 0} → (A → B → C) → List A → List B → List C
zip_with f [] ys = []
zip_with f (x ∷ xs) [] = []
zip_with f (x ∷ xs) (y ∷ ys) = f x y ∷ zip_with f xs ys

-- the same of three lists
abbrev pub zip_three : {A B C D : Type 0} → (A → B → C → D) → List A → List B → List C → List D
zip_three f [] ys zs = []
zip_three f (x ∷ xs) [] zs = []
zip_three f (x ∷ xs) (y ∷ ys) [] = []
zip_three f (x ∷ xs) (y ∷ ys) (z ∷ zs) = f x y z ∷ zip_three f xs ys zs
