-- Lists: a fact of each element, and map, filter and flat_map.
use Rattle.std.proofs.Common.{◌≡◌, ℕ, List, [], ◌∷◌, ◌++◌, Bool, true, false, cond, refl, sym, ◌∙◌, ap, subst, arith, inl, inr}
use Rattle.std.specs.Prelude.{not, map}
use Rattle.std.specs.List.{filter, flat_map}
use Rattle.std.proofs.lemmas.Bool.{cases_Bool, true≢false}
use Rattle.std.proofs.lemmas.List.{map-append}
use Rattle.base_row_laws.specs.Bags.{weigh, IsIdentity, each_once, Each}

-- the weights need to agree at the elements only
pub weigh-ext_each : {X : Type 0} (P : X → Type 0) (h g : X → ℕ) (xs : List X) → Each P xs → ((x : X) → P x → h x ≡ g x) → weigh h xs ≡ weigh g xs
weigh-ext_each P h g [] all e = refl
weigh-ext_each P h g (x ∷ xs) all e = let a = e x all.0 in let b = weigh-ext_each P h g xs all.1 e in omega (arith, a, b)

pub filter-ext_each : {X : Type 0} (P : X → Type 0) (p q : X → Bool) (xs : List X) → Each P xs → ((x : X) → P x → p x ≡ q x) → filter p xs ≡ filter q xs
filter-ext_each P p q [] all e = refl
filter-ext_each P p q (x ∷ xs) all e = rw (e x all.0, filter-ext_each P p q xs all.1 e)

pub filter-agree : {X : Type 0} (p q : X → Bool) (xs : List X) → ((x : X) → p x ≡ q x) → filter p xs ≡ filter q xs
filter-agree p q [] e = refl
filter-agree p q (x ∷ xs) e = rw (e x, filter-agree p q xs e)

pub Each-map : {X Y : Type 0} (P : Y → Type 0) (f : X → Y) (xs : List X) → Each (λ x. P (f x)) xs → Each P (map f xs)
Each-map P f [] all = tt
Each-map P f (x ∷ xs) all = (all.0, Each-map P f xs all.1)

pub Each-filter : {X : Type 0} (P : X → Type 0) (p : X → Bool) (xs : List X) → Each P xs → Each P (filter p xs)
Each-filter P p [] all = tt
Each-filter P p (x ∷ xs) all =
    elim (p x) as (λ b. Each P (cond b (x ∷ filter p xs) (filter p xs)))
    [ true ↦ (all.0, Each-filter P p xs all.1) | false ↦ Each-filter P p xs all.1 ]

pub Each-weaker : {X : Type 0} (P Q : X → Type 0) (xs : List X) → ((x : X) → P x → Q x) → Each P xs → Each Q xs
Each-weaker P Q [] e all = tt
Each-weaker P Q (x ∷ xs) e all = (e x all.0, Each-weaker P Q xs e all.1)

pub Each-each_once : {X : Type 0} (P : X → Type 0) (same : X → X → Bool) (xs : List X) → Each P xs → Each P (each_once same xs)
Each-each_once P same [] all = tt
Each-each_once P same (x ∷ xs) all = (all.0, Each-filter P (λ y. not (same x y)) (each_once same xs) (Each-each_once P same xs all.1))

pub map-map : {X Y Z : Type 0} (g : Y → Z) (f : X → Y) (xs : List X) → map g (map f xs) ≡ map (λ x. g (f x)) xs
map-map g f [] = refl
map-map g f (x ∷ xs) = ap (λ l. g (f x) ∷ l) (map-map g f xs)

pub filter-map : {X Y : Type 0} (p : Y → Bool) (f : X → Y) (xs : List X) → filter p (map f xs) ≡ map f (filter (λ x. p (f x)) xs)
filter-map p f [] = refl
filter-map p f (x ∷ xs) =
    elim (p (f x)) as (λ b. cond b (f x ∷ filter p (map f xs)) (filter p (map f xs)) ≡ map f (cond b (x ∷ filter (λ x. p (f x)) xs) (filter (λ x. p (f x)) xs)))
    [ true ↦ ap (λ l. f x ∷ l) (filter-map p f xs) | false ↦ filter-map p f xs ]

-- a filter within a filter that it implies
pub filter_within : {X : Type 0} (p q : X → Bool) (xs : List X) → ((x : X) → p x ≡ true → q x ≡ true) → filter p (filter q xs) ≡ filter p xs
filter_within p q [] e = refl
filter_within p q (x ∷ xs) e =
    let ih = filter_within p q xs e in
    elim (cases_Bool (q x)) [ inl t ↦ rw (t, ih) | inr t ↦ elim (cases_Bool (p x)) [ inl s ↦ absurd (true≢false (sym (e x s) ∙ t)) | inr s ↦ rw (t, s, ih) ] ]

pub Each-append : {X : Type 0} (P : X → Type 0) (xs ys : List X) → Each P xs → Each P ys → Each P (xs ++ ys)
Each-append P [] ys a b = b
Each-append P (x ∷ xs) ys a b = (a.0, Each-append P xs ys a.1 b)

pub Each-flat_map : {X Y : Type 0} (P : X → Type 0) (Q : Y → Type 0) (f : X → List Y) (xs : List X) → Each P xs → ((x : X) → P x → Each Q (f x)) → Each Q (flat_map f xs)
Each-flat_map P Q f [] all e = tt
Each-flat_map P Q f (x ∷ xs) all e = Each-append Q (f x) (flat_map f xs) (e x all.0) (Each-flat_map P Q f xs all.1 e)

pub Each-all : {X : Type 0} (P : X → Type 0) (xs : List X) → ((x : X) → P x) → Each P xs
Each-all P [] e = tt
Each-all P (x ∷ xs) e = (e x, Each-all P xs e)

pub Each-both : {X : Type 0} (P Q : X → Type 0) (xs : List X) → Each P xs → Each Q xs → Each (λ x. P x × Q x) xs
Each-both P Q [] a b = tt
Each-both P Q (x ∷ xs) a b = ((a.0, b.0), Each-both P Q xs a.1 b.1)

pub flat_map-map : {X Y Z : Type 0} (f : Y → List Z) (g : X → Y) (xs : List X) → flat_map f (map g xs) ≡ flat_map (λ x. f (g x)) xs
flat_map-map f g [] = refl
flat_map-map f g (x ∷ xs) = ap (λ l. f (g x) ++ l) (flat_map-map f g xs)

pub map-flat_map : {X Y Z : Type 0} (g : Y → Z) (f : X → List Y) (xs : List X) → map g (flat_map f xs) ≡ flat_map (λ x. map g (f x)) xs
map-flat_map g f [] = refl
map-flat_map g f (x ∷ xs) = map-append g (f x) (flat_map f xs) ∙ ap (λ l. map g (f x) ++ l) (map-flat_map g f xs)

pub flat_map-ext : {X Y : Type 0} (f g : X → List Y) (xs : List X) → ((x : X) → f x ≡ g x) → flat_map f xs ≡ flat_map g xs
flat_map-ext f g [] e = refl
flat_map-ext f g (x ∷ xs) e = rw (e x, flat_map-ext f g xs e)

pub flat_map-ext_each : {X Y : Type 0} (P : X → Type 0) (f g : X → List Y) (xs : List X) → Each P xs → ((x : X) → P x → f x ≡ g x) → flat_map f xs ≡ flat_map g xs
flat_map-ext_each P f g [] all e = refl
flat_map-ext_each P f g (x ∷ xs) all e = rw (e x all.0, flat_map-ext_each P f g xs all.1 e)

pub flat_map-single : {X Y : Type 0} (f : X → Y) (xs : List X) → flat_map (λ x. f x ∷ []) xs ≡ map f xs
flat_map-single f [] = refl
flat_map-single f (x ∷ xs) = ap (λ l. f x ∷ l) (flat_map-single f xs)

pub map-ext : {X Y : Type 0} (f g : X → Y) (xs : List X) → ((x : X) → f x ≡ g x) → map f xs ≡ map g xs
map-ext f g [] e = refl
map-ext f g (x ∷ xs) e = rw (e x, map-ext f g xs e)

pub map-ext_each : {X Y : Type 0} (P : X → Type 0) (f g : X → Y) (xs : List X) → Each P xs → ((x : X) → P x → f x ≡ g x) → map f xs ≡ map g xs
map-ext_each P f g [] all e = refl
map-ext_each P f g (x ∷ xs) all e = rw (e x all.0, map-ext_each P f g xs all.1 e)

pub Each-filter_true : {X : Type 0} (p : X → Bool) (xs : List X) → Each (λ x. p x ≡ true) (filter p xs)
Each-filter_true p [] = tt
Each-filter_true p (x ∷ xs) = elim (cases_Bool (p x)) [ inl t ↦ rw t (t, Each-filter_true p xs) | inr f ↦ rw f (Each-filter_true p xs) ]

-- what of a each_once is, is of the list
pub Each-each_once_back : {X : Type 0} (same : X → X → Bool) (is : IsIdentity same) (P : X → Type 0) (xs : List X) → Each P (each_once same xs) → Each P xs
Each-each_once_back {X} same is P [] all = tt
Each-each_once_back {X} same is P (x ∷ xs) all = (all.0, Each-each_once_back same is P xs (back x (each_once same xs) all.0 all.1))
  where
    back : (x : X) (ys : List X) → P x → Each P (filter (λ y. not (same x y)) ys) → Each P ys
    back x [] p all = tt
    back x (y ∷ ys) p all = elim (cases_Bool (same x y)) [
      | inl t ↦ (subst P (is.tells x y t) p, back x ys p (rw t at all))
      | inr f ↦ let all' : P y × Each P (filter (λ y. not (same x y)) ys) = rw f at all in (all'.0, back x ys p all'.1)
    ]

pub Each-map_back : {X Y : Type 0} (P : Y → Type 0) (f : X → Y) (xs : List X) → Each P (map f xs) → Each (λ x. P (f x)) xs
Each-map_back P f [] all = tt
Each-map_back P f (x ∷ xs) all = (all.0, Each-map_back P f xs all.1)
