-- The order of values and rows is total, and ties are the same.
use Rattle.std.proofs.Common.{◌≡◌, ◌≢◌, ℕ, ℤ, List, refl, sym, ◌∙◌, ap, subst, true}
use Rattle.std.specs.declared.cmp.Ordering.TheVariants.{Less, Equal}
use Rattle.std.specs.Ordering.{is_eq, int_cmp, ordering_then}
use Rattle.std.specs.Cmp.{IsTotalOrder, nat_cmp_is}
use Rattle.std.specs.Cmp.Lexicographic.{slice_cmp, lists_total, lists_ties, pointwise_decides, pointwise}
use Rattle.base_decimal.specs.Decimal.{decimal_cmp}
use Rattle.base_decimal.proofs.Powers.{scaled_alike}
use Rattle.base_value.specs.contracts.value.ValueOrd.TheImpl.{cmp-value}
use Rattle.base_value.specs.contracts.value.ValueOrd.TheImpl.Laws.{total-law, matches_eq-law}
use Rattle.base_value.specs.contracts.value.ValuePartialEq.TheImpl.{eq-value}
use Rattle.base_value.specs.declared.truth.Fault.TheVariants.{TooManyRows, DivideByZero, NumberRange}
use Rattle.base_value.specs.declared.value.Value.{Value}
use Rattle.base_value.specs.declared.value.Value.TheVariants.{Null, Fault, Number, Text, Date}
use Rattle.base_value.specs.Value.{value_cmp, row_cmp}
use Rattle.base_value.proofs.Identity.{value_eq_decides}

-- the derived order is that of the definition
pub value_cmp_is : (x y : Value) → cmp-value.it x y ≡ value_cmp x y
value_cmp_is (Fault TooManyRows) (Fault TooManyRows) = refl
value_cmp_is (Fault TooManyRows) (Fault DivideByZero) = refl
value_cmp_is (Fault TooManyRows) (Fault NumberRange) = refl
value_cmp_is (Fault DivideByZero) (Fault TooManyRows) = refl
value_cmp_is (Fault DivideByZero) (Fault DivideByZero) = refl
value_cmp_is (Fault DivideByZero) (Fault NumberRange) = refl
value_cmp_is (Fault NumberRange) (Fault TooManyRows) = refl
value_cmp_is (Fault NumberRange) (Fault DivideByZero) = refl
value_cmp_is (Fault NumberRange) (Fault NumberRange) = refl
value_cmp_is (Number s a) (Number t b) = refl
value_cmp_is (Text a) (Text b) = refl
value_cmp_is (Date a) (Date b) = refl
value_cmp_is Null (Fault f) = refl
value_cmp_is x y = refl

pub row_cmp_is : (x y : List Value) → slice_cmp cmp-value.it x y ≡ row_cmp x y
row_cmp_is x y = λ i. slice_cmp (λ a b. value_cmp_is a b i) x y

pub value_total : IsTotalOrder value_cmp
value_total = subst IsTotalOrder (λ i x y. value_cmp_is x y i) total-law

pub row_total : IsTotalOrder row_cmp
row_total = subst IsTotalOrder (λ i x y. row_cmp_is x y i) (lists_total total-law)

-- rows that tie are the same row
pub row_ties : (x y : List Value) → is_eq (row_cmp x y) ≡ true → x ≡ y
row_ties x y e =
    let same : pointwise eq-value.it x y ≡ true = lists_ties cmp-value.it matches_eq-law x y ∙ ap is_eq (row_cmp_is x y) ∙ e in
    (pointwise_decides value_eq_decides x y).0 same

pub null_is_last : (v : Value) → v ≢ Null → value_cmp v Null ≡ Less
null_is_last (Fault f) h = refl
null_is_last (Number s c) h = refl
null_is_last (Text t) h = refl
null_is_last (Date d) h = refl
null_is_last Null h = absurd (h refl)

-- of one scale, the order of values is the order of decimals
pub order_of_decimals : (s : ℕ) (a b : ℤ)
    → value_cmp (Number s a) (Number s b) ≡ decimal_cmp a s b s
order_of_decimals s a b =
    ap (λ o. ordering_then o (int_cmp a b)) (sym (nat_cmp_is s s Equal refl))
    ∙ scaled_alike a b s s refl
