-- A bag in order is one list, and what DISTINCT leaves.
use Rattle.std.proofs.Common.{◌≡◌, List, [], ◌∷◌, Bool, true, false, refl, sym, ◌∙◌, ap, subst, arith, inl, inr}
use Rattle.std.specs.Prelude.{map}
use Rattle.std.proofs.Math.Dec.{ltb}
use Rattle.std.specs.List.{filter}
use Rattle.std.proofs.lemmas.Bool.{cases_Bool, true≢false}
use Rattle.std.proofs.lemmas.List.{map-id}
use Rattle.base_row_laws.specs.Ranked.{Ranked, ranked}
use Rattle.base_row_laws.specs.Bags.{when, SameBag, IsIdentity, has, each_once, Each}
use Rattle.base_row_laws.specs.Rows.{same_row}
use Rattle.base_row_laws.specs.Operators.{distinct, greatest}
use Rattle.base_row_laws.specs.Domains.{values_of, no_two}
use Rattle.base_row_laws.specs.Aggregates.{IsOrder, InOrder}
use Rattle.base_row_laws.proofs.Lists.{map-map}
use Rattle.base_row_laws.proofs.Classes.{has-SameBag, has-count, count-each_once}
use Rattle.base_row_laws.proofs.Rows.{same_row_is}
use Rattle.base_row_laws.proofs.Domains.{no_two-each_once}

module _ {X : Type 0} (same before : X → X → Bool) (is : IsIdentity same) (order : IsOrder before) where
  -- what stands in a list of which P holds, has P
  stands : (P : X → Type 0) (x : X) (ys : List X) → Each P ys → has same x ys ≡ true → P x
  stands P x [] all t = absurd (true≢false (sym t))
  stands P x (y ∷ ys) all t = elim (cases_Bool (same x y)) [
    | inl s ↦ subst P (sym (is.tells x y s)) all.0
    | inr f ↦ let r : has same x ys ≡ true = rw f at t in stands P x ys all.1 r
  ]

  heads : (x y : X) (xs ys : List X) → InOrder before (x ∷ xs) → InOrder before (y ∷ ys) → SameBag (x ∷ xs) (y ∷ ys) → x ≡ y
  heads x y xs ys a b e = elim (cases_Bool (same x y)) [
    | inl s ↦ is.tells x y s
    | inr f ↦
        let there : has same x (y ∷ ys) ≡ true = sym (has-SameBag same is x e) ∙ rw (is.meets x) in
        let here : has same y (x ∷ xs) ≡ true = has-SameBag same is y e ∙ rw (is.meets y) in
        elim (cases_Bool (same y x)) [
          | inl s ↦ sym (is.tells y x s)
          | inr g ↦
              let t : has same x ys ≡ true = rw f at there in
              let h : has same y xs ≡ true = rw g at here in
              order.both x y (stands (λ z. before x z ≡ true) y xs a.0 h) (stands (λ z. before y z ≡ true) x ys b.0 t)
        ]
  ]

  pub one_list : (xs ys : List X) → InOrder before xs → InOrder before ys → SameBag xs ys → xs ≡ ys
  one_list [] [] a b e = refl
  one_list [] (y ∷ ys) a b e = let n = e.weighs (λ z. 1) in absurd (omega arith)
  one_list (x ∷ xs) [] a b e = let n = e.weighs (λ z. 1) in absurd (omega arith)
  one_list (x ∷ xs) (y ∷ ys) a b e =
      let h = heads x y xs ys a b e in
      let rest : SameBag xs ys = record { weighs = λ g. let n = e.weighs g in let m = ap g h in omega (arith, n, m) } in
      let t = one_list xs ys a.1 b.1 rest in
      ap (λ z. z ∷ xs) h ∙ ap (λ l. y ∷ l) t

module _ {V : Type 0} (same : V → V → Bool) (is : IsIdentity same) where
  keys_are : (xs : List (Ranked V)) → values_of (distinct same xs) ≡ each_once (same_row same) (values_of xs)
  keys_are xs =
      map-map (λ e. e.values) (λ k. ranked k (greatest (filter (λ x. same_row same x.values k) xs))) (each_once (same_row same) (map (λ x. x.values) xs))
      ∙ map-id (each_once (same_row same) (map (λ x. x.values) xs))

  pub distinct_once : (xs : List (Ranked V)) → no_two same (values_of (distinct same xs)) ≡ true
  distinct_once xs = ap (no_two same) (keys_are xs) ∙ no_two-each_once same is (values_of xs)

  pub distinct_has : (xs : List (Ranked V)) (r : List V) → has (same_row same) r (values_of (distinct same xs)) ≡ has (same_row same) r (values_of xs)
  distinct_has xs r =
      let is' = same_row_is same is in let vs = values_of xs in
      ap (has (same_row same) r) (keys_are xs)
      ∙ has-count (same_row same) is' r (each_once (same_row same) vs)
      ∙ ap (ltb 0) (count-each_once (same_row same) is' r vs)
      ∙ positive (has (same_row same) r vs)
    where
      positive : (b : Bool) → ltb 0 (when b 1) ≡ b
      positive true = refl
      positive false = refl
