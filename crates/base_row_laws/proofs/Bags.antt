-- Weights of lists, and bags by their weights.
use Rattle.std.proofs.Common.{◌≡◌, ℕ, ◌+◌, List, [], ◌∷◌, ◌++◌, Bool, true, false, cond, refl, sym, ◌∙◌, ap, arith, zero-add}
use Rattle.std.specs.Prelude.{map, not}
use Rattle.std.specs.List.{filter, flat_map}
use Rattle.base_row_laws.specs.Bags.{when, weigh, SameBag}

pub weigh-append : {X : Type 0} (h : X → ℕ) (xs ys : List X) → weigh h (xs ++ ys) ≡ weigh h xs + weigh h ys
weigh-append h [] ys = sym (zero-add (weigh h ys))
weigh-append h (x ∷ xs) ys = omega (arith, weigh-append h xs ys)

pub weigh-ext : {X : Type 0} (h g : X → ℕ) (xs : List X) → ((x : X) → h x ≡ g x) → weigh h xs ≡ weigh g xs
weigh-ext h g [] e = refl
weigh-ext h g (x ∷ xs) e = omega (arith, e x, weigh-ext h g xs e)

pub weigh-map : {X Y : Type 0} (h : Y → ℕ) (f : X → Y) (xs : List X) → weigh h (map f xs) ≡ weigh (λ x. h (f x)) xs
weigh-map h f [] = refl
weigh-map h f (x ∷ xs) = ap (λ n. h (f x) + n) (weigh-map h f xs)

pub weigh-filter : {X : Type 0} (h : X → ℕ) (p : X → Bool) (xs : List X) → weigh h (filter p xs) ≡ weigh (λ x. when (p x) (h x)) xs
weigh-filter h p [] = refl
weigh-filter h p (x ∷ xs) =
    elim (p x) as (λ b. weigh h (cond b (x ∷ filter p xs) (filter p xs)) ≡ when b (h x) + weigh (λ x. when (p x) (h x)) xs)
    [ true ↦ ap (λ n. h x + n) (weigh-filter h p xs) | false ↦ weigh-filter h p xs ∙ sym (zero-add _) ]

pub weigh-flat_map : {X Y : Type 0} (h : Y → ℕ) (f : X → List Y) (xs : List X) → weigh h (flat_map f xs) ≡ weigh (λ x. weigh h (f x)) xs
weigh-flat_map h f [] = refl
weigh-flat_map h f (x ∷ xs) = weigh-append h (f x) (flat_map f xs) ∙ ap (λ n. weigh h (f x) + n) (weigh-flat_map h f xs)

pub weigh-zero : {X : Type 0} (xs : List X) → weigh (λ x. 0) xs ≡ 0
weigh-zero [] = refl
weigh-zero (x ∷ xs) = omega (arith, weigh-zero xs)

pub weigh-add : {X : Type 0} (h g : X → ℕ) (xs : List X) → weigh (λ x. h x + g x) xs ≡ weigh h xs + weigh g xs
weigh-add h g [] = refl
weigh-add h g (x ∷ xs) = omega (arith, weigh-add h g xs)

-- the weight of what passes a test and of what doesn't
when-parts : (b : Bool) (n : ℕ) → n ≡ when b n + when (not b) n
when-parts true n = omega arith
when-parts false n = omega arith

pub weigh-swap : {X Y : Type 0} (f : X → Y → ℕ) (xs : List X) (ys : List Y) → weigh (λ x. weigh (λ y. f x y) ys) xs ≡ weigh (λ y. weigh (λ x. f x y) xs) ys
weigh-swap f [] ys = sym (weigh-zero ys)
weigh-swap f (x ∷ xs) ys =
    omega (arith, weigh-swap f xs ys, weigh-add (λ y. f x y) (λ y. weigh (λ x. f x y) xs) ys)

pub when-zero : (b : Bool) → when b 0 ≡ 0
when-zero true = refl
when-zero false = refl

pub weigh-when : {X : Type 0} (b : Bool) (h : X → ℕ) (xs : List X) → weigh (λ x. when b (h x)) xs ≡ when b (weigh h xs)
weigh-when true h xs = refl
weigh-when false h xs = weigh-zero xs

pub when-cong : (b : Bool) (n m : ℕ) → (b ≡ true → n ≡ m) → when b n ≡ when b m
when-cong true n m e = e refl
when-cong false n m e = refl

pub when-swap : (a b : Bool) (n : ℕ) → when a (when b n) ≡ when b (when a n)
when-swap true b n = refl
when-swap false b n = sym (when-zero b)

-- bags
pub SameBag-refl : {X : Type 0} (xs : List X) → SameBag xs xs
SameBag-refl xs = record { weighs = λ h. refl }

pub SameBag-sym : {X : Type 0} {xs ys : List X} → SameBag xs ys → SameBag ys xs
SameBag-sym e = record { weighs = λ h. sym (e.weighs h) }

pub SameBag-trans : {X : Type 0} {xs ys zs : List X} → SameBag xs ys → SameBag ys zs → SameBag xs zs
SameBag-trans e f = record { weighs = λ h. e.weighs h ∙ f.weighs h }

pub SameBag-append : {X : Type 0} {xs ys us vs : List X} → SameBag xs ys → SameBag us vs → SameBag (xs ++ us) (ys ++ vs)
SameBag-append {xs} {ys} {us} {vs} e f = record { weighs = λ h. omega (arith, e.weighs h, f.weighs h, weigh-append h xs us, weigh-append h ys vs) }

pub SameBag-append_comm : {X : Type 0} (xs ys : List X) → SameBag (xs ++ ys) (ys ++ xs)
SameBag-append_comm xs ys = record { weighs = λ h. omega (arith, weigh-append h xs ys, weigh-append h ys xs) }

pub SameBag-map : {X Y : Type 0} (f : X → Y) {xs ys : List X} → SameBag xs ys → SameBag (map f xs) (map f ys)
SameBag-map f {xs} {ys} e = record { weighs = λ h. weigh-map h f xs ∙ e.weighs (λ x. h (f x)) ∙ sym (weigh-map h f ys) }

pub SameBag-filter : {X : Type 0} (p : X → Bool) {xs ys : List X} → SameBag xs ys → SameBag (filter p xs) (filter p ys)
SameBag-filter p {xs} {ys} e = record { weighs = λ h. weigh-filter h p xs ∙ e.weighs (λ x. when (p x) (h x)) ∙ sym (weigh-filter h p ys) }

pub SameBag-flat_map : {X Y : Type 0} (f : X → List Y) {xs ys : List X} → SameBag xs ys → SameBag (flat_map f xs) (flat_map f ys)
SameBag-flat_map f {xs} {ys} e = record { weighs = λ h. weigh-flat_map h f xs ∙ e.weighs (λ x. weigh h (f x)) ∙ sym (weigh-flat_map h f ys) }

-- the parts that a test makes of a list
pub parts_by_test : {X : Type 0} (p : X → Bool) (xs : List X) → SameBag xs (filter p xs ++ filter (λ x. not (p x)) xs)
parts_by_test p xs = record {
  weighs = λ h.
      weigh-ext h (λ x. when (p x) (h x) + when (not (p x)) (h x)) xs (λ x. when-parts (p x) (h x))
      ∙ weigh-add (λ x. when (p x) (h x)) (λ x. when (not (p x)) (h x)) xs
      ∙ sym (weigh-append h (filter p xs) (filter (λ x. not (p x)) xs)
      ∙ ap (λ n. n + weigh h (filter (λ x. not (p x)) xs)) (weigh-filter h p xs)
      ∙ ap (λ n. weigh (λ x. when (p x) (h x)) xs + n) (weigh-filter h (λ x. not (p x)) xs));
}

-- two loops exchanged
pub loops_exchanged : {X Y Z : Type 0} (f : X → Y → List Z) (xs : List X) (ys : List Y)
    → SameBag (flat_map (λ x. flat_map (λ y. f x y) ys) xs) (flat_map (λ y. flat_map (λ x. f x y) xs) ys)
loops_exchanged f xs ys = record {
  weighs = λ h.
      weigh-flat_map h (λ x. flat_map (λ y. f x y) ys) xs
      ∙ weigh-ext (λ x. weigh h (flat_map (λ y. f x y) ys)) (λ x. weigh (λ y. weigh h (f x y)) ys) xs (λ x. weigh-flat_map h (λ y. f x y) ys)
      ∙ weigh-swap (λ x y. weigh h (f x y)) xs ys
      ∙ sym (weigh-flat_map h (λ y. flat_map (λ x. f x y) xs) ys
      ∙ weigh-ext (λ y. weigh h (flat_map (λ x. f x y) xs)) (λ y. weigh (λ x. weigh h (f x y)) xs) ys (λ y. weigh-flat_map h (λ x. f x y) xs));
}
