-- Functions of the bag: each is made of others that are.
use Rattle.std.proofs.Common.{◌≡◌, ℕ, ◌+◌, ◌-◌, ◌≤◌, List, [], ◌∷◌, ◌++◌, Bool, true, false, refl, sym, ◌∙◌, ap, arith, inl, inr, length}
use Rattle.std.specs.Prelude.{map, min, max}
use Rattle.std.specs.List.{filter}
use Rattle.std.proofs.lemmas.Bool.{cases_Bool, true≢false}
use Rattle.base_row_laws.specs.Bags.{when, weigh, SameBag, IsIdentity, has, each_once, OfBag, top, bottom}
use Rattle.base_row_laws.specs.Operators.{by_number}
use Rattle.base_row_laws.specs.Aggregates.{run, Exchanges}
use Rattle.base_row_laws.proofs.Bags.{SameBag-map, SameBag-filter}
use Rattle.base_row_laws.proofs.Classes.{without, weigh-without, has-SameBag, SameBag-each_once}

-- how far the elements stand above m, all together, is nothing where the greatest is at most m, and
-- the other way round
top_within : {X : Type 0} (f : X → ℕ) (m : ℕ) (xs : List X) → top f xs ≤ m → weigh (λ x. f x - m) xs ≡ 0
top_within f m [] h = refl
top_within f m (x ∷ xs) h = let ih : top f xs ≤ m → weigh (λ x. f x - m) xs ≡ 0 = top_within f m xs in omega (arith, ih)

within_top : {X : Type 0} (f : X → ℕ) (m : ℕ) (xs : List X) → weigh (λ x. f x - m) xs ≡ 0 → top f xs ≤ m
within_top f m [] h = omega arith
within_top f m (x ∷ xs) h = let ih : weigh (λ x. f x - m) xs ≡ 0 → top f xs ≤ m = within_top f m xs in omega (arith, ih)

pub OfBag-top : {X : Type 0} (f : X → ℕ) → OfBag (top f)
OfBag-top f = record {
  alike = λ xs ys e.
      let a = within_top f (top f ys) xs (e.weighs (λ x. f x - top f ys) ∙ top_within f (top f ys) ys (omega arith)) in
      let b = within_top f (top f xs) ys (sym (e.weighs (λ x. f x - top f xs)) ∙ top_within f (top f xs) xs (omega arith)) in
      omega (arith, a, b);
}

bottom_within : {X : Type 0} (n : ℕ) (f : X → ℕ) (m : ℕ) (xs : List X) → m ≤ bottom n f xs → weigh (λ x. m - f x) xs ≡ 0
bottom_within n f m [] h = refl
bottom_within n f m (x ∷ xs) h = let ih : m ≤ bottom n f xs → weigh (λ x. m - f x) xs ≡ 0 = bottom_within n f m xs in omega (arith, ih)

within_bottom : {X : Type 0} (n : ℕ) (f : X → ℕ) (m : ℕ) (xs : List X) → m ≤ n → weigh (λ x. m - f x) xs ≡ 0 → m ≤ bottom n f xs
within_bottom n f m [] u h = u
within_bottom n f m (x ∷ xs) u h = let ih : weigh (λ x. m - f x) xs ≡ 0 → m ≤ bottom n f xs = within_bottom n f m xs u in omega (arith, ih)

pub bottom_most : {X : Type 0} (n : ℕ) (f : X → ℕ) (xs : List X) → bottom n f xs ≤ n
bottom_most n f [] = omega arith
bottom_most n f (x ∷ xs) = let ih = bottom_most n f xs in omega (arith, ih)

pub OfBag-bottom : {X : Type 0} (n : ℕ) (f : X → ℕ) → OfBag (bottom n f)
OfBag-bottom n f = record {
  alike = λ xs ys e.
      let u = bottom_most n f xs in let v = bottom_most n f ys in
      let a = within_bottom n f (bottom n f ys) xs v (e.weighs (λ x. bottom n f ys - f x) ∙ bottom_within n f (bottom n f ys) ys (omega arith)) in
      let b = within_bottom n f (bottom n f xs) ys u (sym (e.weighs (λ x. bottom n f xs - f x)) ∙ bottom_within n f (bottom n f xs) xs (omega arith)) in
      omega (arith, a, b);
}

-- of two lists one after the other
pub top-append : {X : Type 0} (f : X → ℕ) (xs ys : List X) → top f (xs ++ ys) ≡ max (top f xs) (top f ys)
top-append f [] ys = omega arith
top-append f (x ∷ xs) ys = let ih = top-append f xs ys in omega (arith, ih)

pub bottom-append : {X : Type 0} (n : ℕ) (f : X → ℕ) (xs ys : List X) → bottom n f (xs ++ ys) ≡ min (bottom n f xs) (bottom n f ys)
bottom-append n f [] ys = let a = bottom_most n f ys in omega (arith, a)
bottom-append n f (x ∷ xs) ys = let ih = bottom-append n f xs ys in omega (arith, ih)

pub OfBag-weigh : {X : Type 0} (h : X → ℕ) → OfBag (weigh h)
OfBag-weigh h = record { alike = λ xs ys e. e.weighs h }

pub OfBag-const : {X Y : Type 0} (y : Y) → OfBag {X = X} (λ xs. y)
OfBag-const y = record { alike = λ xs ys e. refl }

-- of two functions of the bag
pub OfBag-both : {X Y Z W : Type 0} (g : Y → Z → W) (a : List X → Y) (b : List X → Z) → OfBag a → OfBag b → OfBag (λ xs. g (a xs) (b xs))
OfBag-both g a b p q = record { alike = λ xs ys e. rw (p.alike xs ys e, q.alike xs ys e) }

pub OfBag-then : {X Y Z : Type 0} (g : Y → Z) (a : List X → Y) → OfBag a → OfBag (λ xs. g (a xs))
OfBag-then g a p = record { alike = λ xs ys e. ap g (p.alike xs ys e) }

-- of the arguments' list
pub OfBag-map : {X Y Z : Type 0} (f : X → Y) (a : List Y → Z) → OfBag a → OfBag (λ xs. a (map f xs))
OfBag-map f a p = record { alike = λ xs ys e. p.alike (map f xs) (map f ys) (SameBag-map f e) }

pub OfBag-filter : {X Z : Type 0} (p : X → Bool) (a : List X → Z) → OfBag a → OfBag (λ xs. a (filter p xs))
OfBag-filter p a q = record { alike = λ xs ys e. q.alike (filter p xs) (filter p ys) (SameBag-filter p e) }

length-weigh : {X : Type 0} (xs : List X) → length xs ≡ weigh (λ x. 1) xs
length-weigh [] = refl
length-weigh (x ∷ xs) = let ih = length-weigh xs in omega (arith, ih)

pub OfBag-length : {X : Type 0} → OfBag {X = X} (λ xs. length xs)
OfBag-length = record { alike = λ xs ys e. length-weigh xs ∙ e.weighs (λ x. 1) ∙ sym (length-weigh ys) }

pub OfBag-each_once : {X Z : Type 0} (same : X → X → Bool) (is : IsIdentity same) (a : List X → Z) → OfBag a → OfBag (λ xs. a (each_once same xs))
OfBag-each_once same is a q = record { alike = λ xs ys e. q.alike (each_once same xs) (each_once same ys) (SameBag-each_once same is e) }

-- a fold whose steps may be exchanged, over values with identity
module _ {X S : Type 0} (same : X → X → Bool) (is : IsIdentity same) (step : X → S → S) (ex : Exchanges step) (s : S) where
  run-without : (x : X) (ys : List X) → has same x ys ≡ true → run step s ys ≡ step x (run step s (without same is x ys))
  run-without x [] e = absurd (true≢false (sym e))
  run-without x (y ∷ ys) e = elim (cases_Bool (same x y)) [
    | inl t ↦ rw (t, is.tells x y t)
    | inr f ↦ let r : has same x ys ≡ true = rw f at e in rw f (ap (λ z. step y z) (run-without x ys r) ∙ ex.steps y x (run step s (without same is x ys)))
  ]

  run_alike : (xs ys : List X) → SameBag xs ys → run step s xs ≡ run step s ys
  run_alike [] [] e = refl
  run_alike [] (y ∷ ys) e = let a = e.weighs (λ z. 1) in absurd (omega arith)
  run_alike (x ∷ xs) ys e =
      let here : has same x (x ∷ xs) ≡ true = rw (is.meets x) in
      let there : has same x ys ≡ true = sym (has-SameBag same is x e) ∙ here in
      let ih = run_alike xs (without same is x ys) (record { weighs = λ h. let a = e.weighs h in let b = weigh-without same is h x ys there in omega (arith, a, b) }) in
      ap (λ z. step x z) ih ∙ sym (run-without x ys there)

  pub OfBag-run : OfBag (run step s)
  OfBag-run = record { alike = run_alike }

-- by cases of none, one and more
pub OfBag-by_number : {X Y : Type 0} (same : X → X → Bool) → IsIdentity same → (none : Y) (one : X → Y) (more : Y) → OfBag (by_number none one more)
OfBag-by_number {X} {Y} same is none one more = record { alike = go }
  where
    go : (xs ys : List X) → SameBag xs ys → by_number none one more xs ≡ by_number none one more ys
    go [] [] e = refl
    go [] (y ∷ ys) e = let a = e.weighs (λ z. 1) in absurd (omega arith)
    go (x ∷ []) [] e = let a = e.weighs (λ z. 1) in absurd (omega arith)
    go (x ∷ []) (y ∷ []) e = let a = e.weighs (λ z. when (same x z) 1) in elim (cases_Bool (same x y)) [
      | inl t ↦ ap one (is.tells x y t)
      | inr f ↦ let m = is.meets x in let b : when true 1 + 0 ≡ when false 1 + 0 = rw (m, f) at a in absurd (omega arith)
    ]
    go (x ∷ []) (y ∷ z ∷ zs) e = let a = e.weighs (λ z. 1) in absurd (omega arith)
    go (x ∷ u ∷ us) [] e = let a = e.weighs (λ z. 1) in absurd (omega arith)
    go (x ∷ u ∷ us) (y ∷ []) e = let a = e.weighs (λ z. 1) in absurd (omega arith)
    go (x ∷ u ∷ us) (y ∷ z ∷ zs) e = refl
