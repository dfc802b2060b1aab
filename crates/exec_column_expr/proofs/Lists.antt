-- Lemmas on lists that are made element by element.
use Rattle.std.proofs.Common.{◌≡◌, ℕ, ◌≤◌, suc, zero, List, [], ◌∷◌, refl, sym, ap, ◌∙◌, length, map, replicate, arith}
use Rattle.std.proofs.lemmas.List.{length-replicate}
use Rattle.exec_column_operators.specs.Zips.{zip_with, zip_three}

-- two functions that agree at each element
pub agree : {A B : Type 0} (f g : A → B) (xs : List A) → ((x : A) → f x ≡ g x) → map f xs ≡ map g xs
agree f g [] h = refl
agree f g (x ∷ xs) h = ap (λ y. y ∷ map f xs) (h x) ∙ ap (λ ys. g x ∷ ys) (agree f g xs h)

-- one element for each
pub alike : {A B : Type 0} (b : B) (xs : List A) → map (λ x. b) xs ≡ replicate (length xs) b
alike b [] = refl
alike b (x ∷ xs) = ap (λ ys. b ∷ ys) (alike b xs)

-- two and three lists made of one
pub zip_of : {A B C D : Type 0} (f : B → C → D) (g : A → B) (h : A → C) (xs : List A) → zip_with f (map g xs) (map h xs) ≡ map (λ x. f (g x) (h x)) xs
zip_of f g h [] = refl
zip_of f g h (x ∷ xs) = ap (λ ys. f (g x) (h x) ∷ ys) (zip_of f g h xs)

pub three_of : {A B C D E : Type 0} (f : B → C → D → E) (g : A → B) (h : A → C) (k : A → D) (xs : List A)
    → zip_three f (map g xs) (map h xs) (map k xs) ≡ map (λ x. f (g x) (h x) (k x)) xs
three_of f g h k [] = refl
three_of f g h k (x ∷ xs) = ap (λ ys. f (g x) (h x) (k x) ∷ ys) (three_of f g h k xs)

-- one element many times, and a list
pub map_one : {A B : Type 0} (f : A → B) (n : ℕ) (x : A) → map f (replicate n x) ≡ replicate n (f x)
map_one f zero x = refl
map_one f (suc n) x = ap (λ ys. f x ∷ ys) (map_one f n x)

pub zip_one_one : {A B C : Type 0} (f : A → B → C) (n : ℕ) (x : A) (y : B) → zip_with f (replicate n x) (replicate n y) ≡ replicate n (f x y)
zip_one_one f zero x y = refl
zip_one_one f (suc n) x y = ap (λ zs. f x y ∷ zs) (zip_one_one f n x y)

pub zip_one_each : {A B C : Type 0} (f : A → B → C) (n : ℕ) (x : A) (ys : List B) → length ys ≡ n → zip_with f (replicate n x) ys ≡ map (f x) ys
zip_one_each f zero x [] h = refl
zip_one_each f zero x (y ∷ ys) h = absurd (omega (arith, h))
zip_one_each f (suc n) x [] h = absurd (omega (arith, h))
zip_one_each f (suc n) x (y ∷ ys) h = ap (λ zs. f x y ∷ zs) (zip_one_each f n x ys (omega (arith, h)))

pub zip_each_one : {A B C : Type 0} (f : A → B → C) (n : ℕ) (xs : List A) (y : B) → length xs ≡ n → zip_with f xs (replicate n y) ≡ map (λ x. f x y) xs
zip_each_one f zero [] y h = refl
zip_each_one f zero (x ∷ xs) y h = absurd (omega (arith, h))
zip_each_one f (suc n) [] y h = absurd (omega (arith, h))
zip_each_one f (suc n) (x ∷ xs) y h = ap (λ zs. f x y ∷ zs) (zip_each_one f n xs y (omega (arith, h)))

pub ruleset ones = (map_one, zip_one_one, zip_one_each, zip_each_one, length-replicate)
