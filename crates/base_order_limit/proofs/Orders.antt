-- The order of an answer is total, and rows that tie are the same.
use Rattle.std.proofs.Common.{◌≡◌, ℕ, List, [], ◌∷◌, Bool, true, false, refl, sym, ◌∙◌, ap, subst}
use Rattle.std.specs.Prelude.{slice_index_or, if◌then◌else◌}
use Rattle.std.specs.declared.cmp.Ordering.{Ordering}
use Rattle.std.specs.declared.cmp.Ordering.TheVariants.{Less, Equal, Greater}
use Rattle.std.specs.Ordering.{is_le, is_lt, is_gt, is_eq, ordering_reverse, ordering_then}
use Rattle.std.specs.Cmp.{IsTotalOrder, IsStrictWeakOrder, on_total, back_total, then_total, upto}
use Rattle.std.proofs.lemmas.Bool.{true≢false}
use Rattle.std.proofs.lemmas.List.Sorted.{ranks_by}
use Rattle.base_row_laws.specs.Aggregates.{IsOrder}
use Rattle.base_value.specs.declared.value.Value.{Value}
use Rattle.base_value.specs.declared.value.Value.TheVariants.{Null}
use Rattle.base_value.specs.Value.{value_cmp}
use Rattle.base_value.proofs.Orders.{value_total, row_total, row_ties}
use Rattle.base_order_limit.specs.declared.key.OrderKey.{OrderKey}
use Rattle.base_order_limit.specs.Answers.{key_order, answer_order, comes_before}

column_total : (column : ℕ) → IsTotalOrder (λ (x y : List Value). value_cmp (slice_index_or x column Null) (slice_index_or y column Null))
column_total column = on_total (λ x. slice_index_or x column Null) value_total

reverse_total : {K : Type 0} (R : K → K → Ordering) → IsTotalOrder R → IsTotalOrder (λ x y. ordering_reverse (R x y))
reverse_total R t = subst IsTotalOrder (λ i x y. turned x y i) (back_total t)
  where
    turned : (x y : _) → R y x ≡ ordering_reverse (R x y)
    turned x y = t.antisymm y x

key_total : (key : OrderKey) → IsTotalOrder (key_order key)
key_total key = by_direction key.is_descending
  where
    by_direction : (d : Bool) → IsTotalOrder (λ (x y : List Value). if d then ordering_reverse (value_cmp (slice_index_or x key.column Null) (slice_index_or y key.column Null)) else value_cmp (slice_index_or x key.column Null) (slice_index_or y key.column Null))
    by_direction true = reverse_total (λ (x y : List Value). value_cmp (slice_index_or x key.column Null) (slice_index_or y key.column Null)) (column_total key.column)
    by_direction false = column_total key.column

pub answer_total : (keys : List OrderKey) → IsTotalOrder (answer_order keys)
answer_total [] = row_total
answer_total (key ∷ keys) = then_total (key_total key) (answer_total keys)

then_eq : (a b : Ordering) → is_eq (ordering_then a b) ≡ true → is_eq b ≡ true
then_eq Less b e = absurd (true≢false (sym e))
then_eq Equal b e = e
then_eq Greater b e = absurd (true≢false (sym e))

pub answer_ties : (keys : List OrderKey) (x y : List Value) → is_eq (answer_order keys x y) ≡ true → x ≡ y
answer_ties [] x y e = row_ties x y e
answer_ties (key ∷ keys) x y e = answer_ties keys x y (then_eq (key_order key x y) (answer_order keys x y) e)

le_from_gt : (r : Ordering) → is_gt r ≡ false → is_le r ≡ true
le_from_gt Less e = refl
le_from_gt Equal e = refl
le_from_gt Greater e = absurd (true≢false e)

gt_from_le : (r : Ordering) → is_le r ≡ true → is_gt r ≡ false
gt_from_le Less e = refl
gt_from_le Equal e = refl
gt_from_le Greater e = absurd (true≢false (sym e))

turned_le : (r : Ordering) → is_le (ordering_reverse r) ≡ false → is_le r ≡ true
turned_le Less e = refl
turned_le Equal e = refl
turned_le Greater e = absurd (true≢false e)

both_le : (r : Ordering) → is_le r ≡ true → is_le (ordering_reverse r) ≡ true → is_eq r ≡ true
both_le Less e f = absurd (true≢false (sym f))
both_le Equal e f = refl
both_le Greater e f = absurd (true≢false (sym e))

pub answer_is_order : (keys : List OrderKey) → IsOrder (comes_before keys)
answer_is_order keys = record {
  either = λ x y e. turned_le (answer_order keys y x) (ap is_le (sym ((answer_total keys).antisymm x y)) ∙ e);
  both = λ x y e f. answer_ties keys x y (both_le (answer_order keys x y) e (ap is_le (sym ((answer_total keys).antisymm y x)) ∙ f));
  through = λ x y z e f. le_from_gt (answer_order keys x z) (upto (answer_total keys) x y z (gt_from_le (answer_order keys x y) e) (gt_from_le (answer_order keys y z) f));
}

-- std's strict order, for sorting
pub answer_rank : (keys : List OrderKey) → IsStrictWeakOrder (λ x y. is_lt (answer_order keys x y))
answer_rank keys = ranks_by (answer_total keys) (λ x. x)

lt_from : (r : Ordering) → is_lt (ordering_reverse r) ≡ false → is_le r ≡ true
lt_from Less e = refl
lt_from Equal e = refl
lt_from Greater e = absurd (true≢false e)

pub not_less : (keys : List OrderKey) (x y : List Value) → is_lt (answer_order keys y x) ≡ false → comes_before keys x y ≡ true
not_less keys x y e = lt_from (answer_order keys x y) (ap is_lt (sym ((answer_total keys).antisymm y x)) ∙ e)

-- the keys one by one
pub then_more : (a b : Ordering) → is_eq a ≡ true → ordering_then a b ≡ b
then_more Less b e = absurd (true≢false (sym e))
then_more Equal b e = refl
then_more Greater b e = absurd (true≢false (sym e))

pub then_first : (a b : Ordering) → is_eq a ≡ false → ordering_then a b ≡ a
then_first Less b e = refl
then_first Equal b e = absurd (true≢false e)
then_first Greater b e = refl
