-- The bridge to std's sums and permutations, and what a table of groups has to show.
use Rattle.std.proofs.Common.{◌≡◌, ℕ, ◌+◌, List, [], ◌∷◌, Bool, true, false, cond, refl, sym, ◌∙◌, ap, subst, arith, inl, inr, Some, None}
use Rattle.std.specs.Prelude.{map}
use Rattle.std.specs.List.{filter, sum_by, IsDistinct, AllByRecursion}
use Rattle.std.specs.List.Sorted.{IsPermutation}
use Rattle.std.specs.Map.{lookup}
use Rattle.std.specs.Option.{is_some}
use Rattle.std.proofs.lemmas.Bool.{cases_Bool}
use Rattle.std.proofs.lemmas.List.Sorted.{sum_by-IsPermutation}
use Rattle.std.proofs.lemmas.List.Sums.{sum_by-cons}
use Rattle.std.proofs.lemmas.Map.Keys.{IsDistinct-head, IsDistinct-tail}
use Rattle.base_row_laws.specs.Bags.{when, weigh, SameBag, IsIdentity, has, count, each_once, classes, Each}
use Rattle.base_row_laws.proofs.Bags.{SameBag-map}
use Rattle.base_row_laws.proofs.Lists.{Each-weaker}
use Rattle.base_row_laws.proofs.Classes.{apart, same_from_counts, count-each_once}

pub sum_is : {X : Type 0} (h : X → ℕ) (xs : List X) → sum_by h xs ≡ weigh h xs
sum_is h [] = refl
sum_is h (x ∷ xs) = sum_by-cons h x xs ∙ ap (λ n. h x + n) (sum_is h xs)

pub from_permutation : {X : Type 0} (xs ys : List X) → IsPermutation xs ys → SameBag xs ys
from_permutation xs ys e = record { weighs = λ h. sym (sum_is h xs) ∙ sym (sum_by-IsPermutation h xs ys e) ∙ sum_is h ys }

pub same_sums : {X : Type 0} (xs us : List X) → (SameBag xs us → (h : X → ℕ) → sum_by h xs ≡ sum_by h us) × (((h : X → ℕ) → sum_by h xs ≡ sum_by h us) → SameBag xs us)
same_sums xs us = (λ e h. sum_is h xs ∙ e.weighs h ∙ sym (sum_is h us), λ e. record { weighs = λ h. sym (sum_is h xs) ∙ e h ∙ sum_is h us })

pub classes_from : {R K S : Type 0} (same : K → K → Bool) (is : IsIdentity same) (key : R → K) (f : K → List R → S) (xs : List R) (ks : List K) → ((k : K) → count same k ks ≡ when (has same k (map key xs)) 1)
    → SameBag (map (λ k. f k (filter (λ x. same (key x) k) xs)) ks) (classes same key f xs)
classes_from same is key f xs ks e =
    SameBag-map (λ k. f k (filter (λ x. same (key x) k) xs)) (same_from_counts same is ks (each_once same (map key xs)) (λ k. e k ∙ sym (count-each_once same is k (map key xs))))

some_where : {A : Type 0} (b : Bool) (a : A) → when (is_some (cond b (Some a) None)) 1 ≡ when b 1
some_where true a = refl
some_where false a = refl

from_some : {A : Type 0} (b : Bool) (x y : A) → Some x ≡ cond b (Some y) None → x ≡ y
from_some true x y e = cc
from_some false x y e = cc

mapped : {K A S : Type 0} (made : K → A → S) (g : K → A) (es : List (K × A)) → Each (λ e. e.1 ≡ g e.0) es → map (λ e. made e.0 e.1) es ≡ map (λ k. made k (g k)) (map (λ e. e.0) es)
mapped made g [] all = refl
mapped made g (e ∷ es) all = rw (all.0, mapped made g es all.1)

-- A table's entries, whose keys differ.
module _ {K A : Type 0} (same : K → K → Bool) (is : IsIdentity same) where
  far : (k : K) (es : List (K × A)) → AllByRecursion (λ y. same k y ≡ false) (map (λ e. e.0) es) → (q : K) → same q k ≡ true → count same q (map (λ e. e.0) es) ≡ 0
  far k [] all q t = refl
  far k (e ∷ es) all q t =
      let ih = far k es all.1 q t in
      let f : same q e.0 ≡ false = subst (λ z. same z e.0 ≡ false) (sym (is.tells q k t)) all.0 in
      rw f (omega (arith, ih))

  count_entry : (es : List (K × A)) → IsDistinct same (map (λ e. e.0) es) → (q : K) → count same q (map (λ e. e.0) es) ≡ when (is_some (lookup (same q) es)) 1
  count_entry [] d q = refl
  count_entry (e ∷ es) d q =
      let ih = count_entry es (IsDistinct-tail same e.0 (map (λ e. e.0) es) d) q in
      elim (cases_Bool (same q e.0)) [
        | inl t ↦ let z = far e.0 es (IsDistinct-head same e.0 (map (λ e. e.0) es) d) q t in rw t (omega (arith, z))
        | inr f ↦ rw f (omega (arith, ih))
      ]

  found : (es : List (K × A)) → IsDistinct same (map (λ e. e.0) es) → Each (λ e. lookup (same e.0) es ≡ Some e.1) es
  found [] d = tt
  found (e ∷ es) d =
      let ih = found es (IsDistinct-tail same e.0 (map (λ e. e.0) es) d) in let m = is.meets e.0 in
      (rw m, later es (IsDistinct-head same e.0 (map (λ e. e.0) es) d) ih)
    where
      later : (xs : List (K × A)) → AllByRecursion (λ y. same e.0 y ≡ false) (map (λ e. e.0) xs) → Each (λ x. lookup (same x.0) es ≡ Some x.1) xs → Each (λ x. lookup (same x.0) (e ∷ es) ≡ Some x.1) xs
      later [] h all = tt
      later (x ∷ xs) h all = let f = apart same is e.0 x.0 h.0 in (rw f all.0, later xs h.1 all.1)

  pub entries_made : {R S : Type 0} (key : R → K) (part : List R → A) (made : K → A → S) (xs : List R) (es : List (K × A)) → IsDistinct same (map (λ e. e.0) es)
      → ((q : K) → lookup (same q) es ≡ cond (has same q (map key xs)) (Some (part (filter (λ x. same (key x) q) xs))) None)
      → SameBag (map (λ e. made e.0 e.1) es) (classes same key (λ k ys. made k (part ys)) xs)
  entries_made key part made xs es d look =
      let ks = map (λ e. e.0) es in
      let g : K → A = λ k. part (filter (λ x. same (key x) k) xs) in
      let counts : (k : K) → count same k ks ≡ when (has same k (map key xs)) 1 = λ k.
      count_entry es d k ∙ ap (λ o. when (is_some o) 1) (look k) ∙ some_where (has same k (map key xs)) (g k) in
      let each : map (λ e. made e.0 e.1) es ≡ map (λ k. made k (g k)) ks = mapped made g es (Each-weaker (λ e. lookup (same e.0) es ≡ Some e.1) (λ e. e.1 ≡ g e.0) es
      (λ e f. from_some (has same e.0 (map key xs)) e.1 (g e.0) (sym f ∙ look e.0)) (found es d)) in
      let all = classes_from same is key (λ k ys. made k (part ys)) xs ks counts in
      record { weighs = λ h. ap (λ l. weigh h l) each ∙ all.weighs h }
