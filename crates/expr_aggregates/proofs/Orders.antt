-- The order of values as a test.
use Rattle.std.proofs.Common.{◌≡◌, ◌≢◌, ℕ, ◌<◌, true, false, refl, sym, ◌∙◌, ap, arith, zero, suc}
use Rattle.std.specs.declared.cmp.Ordering.{Ordering}
use Rattle.std.specs.declared.cmp.Ordering.TheVariants.{Less, Equal, Greater}
use Rattle.std.specs.Ordering.{is_le, is_gt, is_eq, ordering_reverse}
use Rattle.std.specs.Cmp.{upto}
use Rattle.std.proofs.lemmas.Bool.{true≢false}
use Rattle.base_row_laws.specs.Aggregates.{IsOrder}
use Rattle.base_value.specs.declared.truth.Fault.{Fault}
use Rattle.base_value.specs.declared.truth.Fault.TheVariants.{TooManyRows, DivideByZero, NumberRange}
use Rattle.base_value.specs.declared.value.Value.{Value}
use Rattle.base_value.specs.declared.value.Value.TheVariants.{Fault as Failed}
use Rattle.base_value.specs.Truth.{fault_rank}
use Rattle.base_value.specs.Value.{value_cmp}
use Rattle.base_value.specs.contracts.value.ValueOrd.TheImpl.Laws.{matches_eq-law}
use Rattle.base_value.proofs.Identity.{value_eq_decides}
use Rattle.base_value.proofs.Orders.{value_total, value_cmp_is}
use Rattle.expr_aggregates.specs.Values.{written, value_rank, is_before}

le_from_gt : (r : Ordering) → is_gt r ≡ false → is_le r ≡ true
le_from_gt Less e = refl
le_from_gt Equal e = refl
le_from_gt Greater e = absurd (true≢false e)

gt_from_le : (r : Ordering) → is_le r ≡ true → is_gt r ≡ false
gt_from_le Less e = refl
gt_from_le Equal e = refl
gt_from_le Greater e = absurd (true≢false (sym e))

turned_le : (r : Ordering) → is_le (ordering_reverse r) ≡ false → is_le r ≡ true
turned_le Less e = refl
turned_le Equal e = refl
turned_le Greater e = absurd (true≢false e)

both_le : (r : Ordering) → is_le r ≡ true → is_le (ordering_reverse r) ≡ true → is_eq r ≡ true
both_le Less e f = absurd (true≢false (sym f))
both_le Equal e f = refl
both_le Greater e f = absurd (true≢false (sym e))

-- values that tie are the same
value_ties : (x y : Value) → is_eq (value_cmp x y) ≡ true → x ≡ y
value_ties x y e = (value_eq_decides x y).0 (matches_eq-law x y ∙ ap is_eq (value_cmp_is x y) ∙ e)

pub before_order : IsOrder is_before
before_order = record {
  either = λ x y e. turned_le (value_cmp y x) (ap is_le (sym (value_total.antisymm x y)) ∙ e);
  both = λ x y e f. value_ties x y (both_le (value_cmp x y) e (ap is_le (sym (value_total.antisymm y x)) ∙ f));
  through = λ x y z e f. le_from_gt (value_cmp x z) (upto value_total x y z (gt_from_le (value_cmp x y) e) (gt_from_le (value_cmp y z) f));
}

pub written_fault : (f : Fault) → written (fault_rank f) ≡ Failed f
written_fault TooManyRows = refl
written_fault DivideByZero = refl
written_fault NumberRange = refl

pub read_back : (rank : ℕ) → 1 < rank → rank < 5 → value_rank (written rank) ≡ rank
read_back zero l h = absurd (omega arith)
read_back (suc zero) l h = absurd (omega arith)
read_back (suc (suc zero)) l h = refl
read_back (suc (suc (suc zero))) l h = refl
read_back (suc (suc (suc (suc zero)))) l h = refl
read_back (suc (suc (suc (suc (suc n))))) l h = absurd (omega arith)
