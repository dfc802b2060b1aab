-- A sorted list with the rows of another is that one in order.
use Rattle.std.proofs.Common.{◌≡◌, ℕ, suc, ◌+◌, ◌<◌, List, [], ◌∷◌, Bool, true, refl, ◌∙◌, ap, subst, arith, inl, inr, length, slice_index_or}
use Rattle.std.specs.Ordering.{is_lt}
use Rattle.std.specs.List.Sorted.{IsSortedBy}
use Rattle.std.proofs.lemmas.Bool.{cases_Bool}
use Rattle.base_row_laws.specs.Bags.{weigh, SameBag, Each}
use Rattle.base_row_laws.specs.Aggregates.{IsOrder, InOrder}
use Rattle.base_row_laws.proofs.Bags.{SameBag-refl, SameBag-sym, SameBag-trans}
use Rattle.base_row_laws.proofs.Lists.{Each-weaker}
use Rattle.base_row_laws.proofs.Orders.{one_list}
use Rattle.base_value.specs.declared.value.Value.{Value}
use Rattle.base_value.specs.Value.{same_row}
use Rattle.base_value.proofs.Identity.{row_identity}
use Rattle.base_order_limit.specs.declared.key.OrderKey.{OrderKey}
use Rattle.base_order_limit.specs.Answers.{answer_order, comes_before, inserted, in_order}
use Rattle.base_order_limit.proofs.Orders.{answer_is_order, not_less}

module _ (before : List Value → List Value → Bool) (order : IsOrder before) where
  inserted_bag : (x : List Value) (ys : List (List Value)) (h : List Value → ℕ) → weigh h (inserted before x ys) ≡ h x + weigh h ys
  inserted_bag x [] h = refl
  inserted_bag x (y ∷ ys) h = let ih = inserted_bag x ys h in elim (cases_Bool (before x y)) [ inl t ↦ rw t refl | inr f ↦ rw f (omega (arith, ih)) ]

  pub in_order_bag : (xs : List (List Value)) → SameBag (in_order before xs) xs
  in_order_bag [] = SameBag-refl []
  in_order_bag (x ∷ xs) = let ih = in_order_bag xs in record { weighs = λ h. inserted_bag x (in_order before xs) h ∙ ap (λ n. h x + n) (ih.weighs h) }

  inserted_each : (P : List Value → Type 0) (x : List Value) (ys : List (List Value)) → P x → Each P ys → Each P (inserted before x ys)
  inserted_each P x [] p all = (p, tt)
  inserted_each P x (y ∷ ys) p all = elim (cases_Bool (before x y)) [ inl t ↦ rw t (p, all) | inr f ↦ rw f (all.0, inserted_each P x ys p all.1) ]

  inserted_in_order : (x : List Value) (ys : List (List Value)) → InOrder before ys → InOrder before (inserted before x ys)
  inserted_in_order x [] o = (tt, tt)
  inserted_in_order x (y ∷ ys) o = elim (cases_Bool (before x y)) [
    | inl t ↦ rw t ((t, Each-weaker (λ z. before y z ≡ true) (λ z. before x z ≡ true) ys (λ z u. order.through x y z t u) o.0), o)
    | inr f ↦ rw f (inserted_each (λ z. before y z ≡ true) x ys (order.either x y f) o.0, inserted_in_order x ys o.1)
  ]

  pub in_order_is : (xs : List (List Value)) → InOrder before (in_order before xs)
  in_order_is [] = tt
  in_order_is (x ∷ xs) = inserted_in_order x (in_order before xs) (in_order_is xs)

  -- neighbours in order are all in order
  adjacent : (ys : List (List Value)) → ((k : ℕ) (d : List Value) → k + 1 < length ys → before (slice_index_or ys k d) (slice_index_or ys (k + 1) d) ≡ true) → InOrder before ys
  adjacent [] h = tt
  adjacent (x ∷ []) h = (tt, tt)
  adjacent (x ∷ y ∷ ys) h =
      let rest : InOrder before (y ∷ ys) = adjacent (y ∷ ys) (λ k d l. let same : suc k + 1 ≡ suc (k + 1) = omega arith in
      subst (λ i. before (slice_index_or (y ∷ ys) k d) (slice_index_or (x ∷ y ∷ ys) i d) ≡ true) same (h (suc k) d (omega arith))) in
      let first : before x y ≡ true = h 0 x (omega arith) in
      ((first, Each-weaker (λ z. before y z ≡ true) (λ z. before x z ≡ true) ys (λ z u. order.through x y z first u) rest.0), rest)

pub sorted_is : (keys : List OrderKey) (xs ys : List (List Value)) → SameBag xs ys → IsSortedBy (λ x y. is_lt (answer_order keys x y)) ys → ys ≡ in_order (comes_before keys) xs
sorted_is keys xs ys same up =
    let before = comes_before keys in
    let order = answer_is_order keys in
    one_list same_row before row_identity order ys (in_order before xs)
    (adjacent before order ys (λ k d l. not_less keys (slice_index_or ys k d) (slice_index_or ys (k + 1) d) (up k d (omega arith) l)))
    (in_order_is before order xs)
    (SameBag-trans (SameBag-sym same) (SameBag-sym (in_order_bag before order xs)))

-- lists of the same rows are the same list in order
pub in_order_alike : (keys : List OrderKey) (xs ys : List (List Value)) → SameBag xs ys → in_order (comes_before keys) xs ≡ in_order (comes_before keys) ys
in_order_alike keys xs ys same =
    let before = comes_before keys in
    let order = answer_is_order keys in
    one_list same_row before row_identity order (in_order before xs) (in_order before ys) (in_order_is before order xs) (in_order_is before order ys)
    (SameBag-trans (in_order_bag before order xs) (SameBag-trans same (SameBag-sym (in_order_bag before order ys))))
