-- Lemmas on two lists together.
use Rattle.std.proofs.Common.{◌≡◌, ℕ, ◌+◌, ◌<◌, suc, zero, List, [], ◌∷◌, ◌++◌, refl, sym, ap, ◌∙◌, arith, length, get_or, take, map, ℤ, replicate}
use Rattle.std.proofs.lemmas.List.{map-append, length-replicate}
use Rattle.base_value.specs.declared.value.Value.TheVariants.{Number, Date}
use Rattle.expr_operators.specs.declared.operator.Comparison.{Comparison}
use Rattle.expr_operators.specs.Operators.{compared}
use Rattle.exec_column_operators.specs.Exact.{number_compared, dates_compared}
use Rattle.exec_column_operators.specs.Zips.{zip_with, zip_three}

pub zip-map : {A B C D E : Type 0} (f : C → D → E) (g : A → C) (h : B → D) (xs : List A) (ys : List B)
    → zip_with f (map g xs) (map h ys) ≡ zip_with (λ x y. f (g x) (h y)) xs ys
zip-map f g h [] ys = refl
zip-map f g h (x ∷ xs) [] = refl
zip-map f g h (x ∷ xs) (y ∷ ys) = ap (λ zs. f (g x) (h y) ∷ zs) (zip-map f g h xs ys)

zip_more : {A B C : Type 0} (f : A → B → C) (xs : List A) (ys : List B) (i : ℕ) (d : A) (e : B) → i < length xs → i < length ys
    → zip_with f (take (i + 1) xs) (take (i + 1) ys) ≡ zip_with f (take i xs) (take i ys) ++ f (get_or xs i d) (get_or ys i e) ∷ []
zip_more f [] ys i d e h l = absurd (omega (arith, h))
zip_more f (a ∷ xs) [] i d e h l = absurd (omega (arith, l))
zip_more f (a ∷ xs) (b ∷ ys) zero d e h l = refl
zip_more f (a ∷ xs) (b ∷ ys) (suc i) d e h l =
    let n : suc i + 1 ≡ suc (i + 1) = omega arith in
    rw n (ap (λ zs. f a b ∷ zs) (zip_more f xs ys i d e (omega (arith, h)) (omega (arith, l))))

-- a loop's step: one element more
pub zip_push : {A B C : Type 0} (f : A → B → C) (xs : List A) (ys : List B) (i : ℕ) (d : A) (e : B) (zs new : List C) (z : C) → i < length xs → i < length ys
    → zs ≡ zip_with f (take i xs) (take i ys) → z ≡ f (get_or xs i d) (get_or ys i e) → new ≡ zs ++ z ∷ []
    → new ≡ zip_with f (take (i + 1) xs) (take (i + 1) ys)
zip_push f xs ys i d e zs new z h l inv by o =
    o ∙ ap (λ ws. ws ++ z ∷ []) inv ∙ ap (λ w. zip_with f (take i xs) (take i ys) ++ w ∷ []) by ∙ sym (zip_more f xs ys i d e h l)

-- the same where all lists are kept in other forms
pub zip_step : {A B C D X Y : Type 0} (g : D → C) (f : X → Y → C) (p : A → X) (q : B → Y) (xs : List A) (ys : List B) (i : ℕ) (d : A) (e : B) (zs new : List D) (z : D)
    → i < length xs → i < length ys → map g zs ≡ zip_with f (map p (take i xs)) (map q (take i ys)) → f (p (get_or xs i d)) (q (get_or ys i e)) ≡ g z → new ≡ zs ++ z ∷ []
    → map g new ≡ zip_with f (map p (take (i + 1) xs)) (map q (take (i + 1) ys))
zip_step g f p q xs ys i d e zs new z h l inv by o =
    zip_push (λ x y. f (p x) (q y)) xs ys i d e (map g zs) (map g new) (g z) h l
    (inv ∙ zip-map f p q (take i xs) (take i ys)) (sym by) (ap (map g) o ∙ map-append g zs (z ∷ []))
    ∙ sym (zip-map f p q (take (i + 1) xs) (take (i + 1) ys))

three_more : {A B C D : Type 0} (f : A → B → C → D) (xs : List A) (ys : List B) (zs : List C) (i : ℕ) (d : A) (e : B) (k : C) → i < length xs → i < length ys → i < length zs
    → zip_three f (take (i + 1) xs) (take (i + 1) ys) (take (i + 1) zs) ≡ zip_three f (take i xs) (take i ys) (take i zs) ++ f (get_or xs i d) (get_or ys i e) (get_or zs i k) ∷ []
three_more f [] ys zs i d e k h l m = absurd (omega (arith, h))
three_more f (a ∷ xs) [] zs i d e k h l m = absurd (omega (arith, l))
three_more f (a ∷ xs) (b ∷ ys) [] i d e k h l m = absurd (omega (arith, m))
three_more f (a ∷ xs) (b ∷ ys) (c ∷ zs) zero d e k h l m = refl
three_more f (a ∷ xs) (b ∷ ys) (c ∷ zs) (suc i) d e k h l m =
    let n : suc i + 1 ≡ suc (i + 1) = omega arith in
    rw n (ap (λ ws. f a b c ∷ ws) (three_more f xs ys zs i d e k (omega (arith, h)) (omega (arith, l)) (omega (arith, m))))

-- a loop's step over three lists
pub three_push : {A B C D : Type 0} (f : A → B → C → D) (xs : List A) (ys : List B) (zs : List C) (i : ℕ) (d : A) (e : B) (k : C) (ws new : List D) (w : D)
    → i < length xs → i < length ys → i < length zs → ws ≡ zip_three f (take i xs) (take i ys) (take i zs) → w ≡ f (get_or xs i d) (get_or ys i e) (get_or zs i k)
    → new ≡ ws ++ w ∷ [] → new ≡ zip_three f (take (i + 1) xs) (take (i + 1) ys) (take (i + 1) zs)
three_push f xs ys zs i d e k ws new w h l m inv by o =
    o ∙ ap (λ vs. vs ++ w ∷ []) inv ∙ ap (λ v. zip_three f (take i xs) (take i ys) (take i zs) ++ v ∷ []) by ∙ sym (three_more f xs ys zs i d e k h l m)

-- numbers and dates compared as values
pub numbers_zip : (c : Comparison) (s t : ℕ) (xs ys : List ℤ) → zip_with (λ x y. number_compared c s x t y) xs ys ≡ zip_with (compared c) (map (Number s) xs) (map (Number t) ys)
unfolding number_compared
numbers_zip c s t xs ys = sym (zip-map (compared c) (Number s) (Number t) xs ys)

pub dates_zip : (c : Comparison) (xs ys : List ℕ) → zip_with (dates_compared c) xs ys ≡ zip_with (compared c) (map Date xs) (map Date ys)
unfolding dates_compared
dates_zip c xs ys = sym (zip-map (compared c) Date Date xs ys)

-- the length of what two lists of one length make
pub zip_long : {A B C : Type 0} (f : A → B → C) (xs : List A) (ys : List B) (n : ℕ) → length xs ≡ n → length ys ≡ n → length (zip_with f xs ys) ≡ n
zip_long f [] ys n h l = h
zip_long f (x ∷ xs) [] n h l = absurd (omega (arith, h, l))
zip_long f (x ∷ xs) (y ∷ ys) zero h l = absurd (omega (arith, h))
zip_long f (x ∷ xs) (y ∷ ys) (suc n) h l = ap suc (zip_long f xs ys n (omega (arith, h)) (omega (arith, l)))

pub three_long : {A B C D : Type 0} (f : A → B → C → D) (xs : List A) (ys : List B) (zs : List C) (n : ℕ) → length xs ≡ n → length ys ≡ n → length zs ≡ n
    → length (zip_three f xs ys zs) ≡ n
three_long f [] ys zs n h l m = h
three_long f (x ∷ xs) [] zs n h l m = absurd (omega (arith, h, l))
three_long f (x ∷ xs) (y ∷ ys) [] n h l m = absurd (omega (arith, h, m))
three_long f (x ∷ xs) (y ∷ ys) (z ∷ zs) zero h l m = absurd (omega (arith, h))
three_long f (x ∷ xs) (y ∷ ys) (z ∷ zs) (suc n) h l m = ap suc (three_long f xs ys zs n (omega (arith, h)) (omega (arith, l)) (omega (arith, m)))

-- a list and one element many times
pub zip_with_one : {A B C : Type 0} (f : A → B → C) (xs : List A) (y : B) → zip_with f xs (replicate (length xs) y) ≡ map (λ x. f x y) xs
zip_with_one f [] y = refl
zip_with_one f (x ∷ xs) y = ap (λ zs. f x y ∷ zs) (zip_with_one f xs y)

pub zip_from_one : {A B C : Type 0} (f : A → B → C) (x : A) (ys : List B) → zip_with f (replicate (length ys) x) ys ≡ map (f x) ys
zip_from_one f x [] = refl
zip_from_one f x (y ∷ ys) = ap (λ zs. f x y ∷ zs) (zip_from_one f x ys)

pub ruleset ones = (zip_with_one, zip_from_one, length-replicate)
