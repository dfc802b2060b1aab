-- Each aggregate depends on the bag of values only.
use Rattle.std.proofs.Common.{◌≡◌, ℕ, true, refl}
use Rattle.base_row_laws.specs.Bags.{OfBag}
use Rattle.base_row_laws.specs.Aggregates.{ReadsNulls}
use Rattle.base_row_laws.proofs.Values.{count_bag, count_distinct_bag, sum_bag, avg_bag, min_bag, max_bag}
use Rattle.base_value.specs.declared.value.Value.{Value}
use Rattle.base_value.specs.declared.value.Value.TheVariants.{Null, Fault as Failed, Number, Text, Date}
use Rattle.base_value.specs.Value.{same_value}
use Rattle.base_value.proofs.Identity.{value_identity}
use Rattle.expr_aggregates.specs.declared.function.AggregateFunction.{AggregateFunction}
use Rattle.expr_aggregates.specs.declared.function.AggregateFunction.TheVariants.{Count, CountDistinct, Sum, Avg, Min, Max}
use Rattle.expr_aggregates.specs.Values.{is_null, value_rank, above, below, reading, divided, is_before, aggregate_of}
use Rattle.expr_aggregates.proofs.Orders.{before_order}

pub of_bag : (function : AggregateFunction) (scale : ℕ) → OfBag (aggregate_of function scale)
of_bag Count scale = count_bag (reading 0)
of_bag CountDistinct scale = count_distinct_bag (reading 0) same_value value_identity
of_bag Sum scale = sum_bag (reading scale)
of_bag Avg scale = avg_bag (reading scale) (divided scale)
of_bag Min scale = min_bag (reading scale) same_value is_before value_identity before_order
of_bag Max scale = max_bag (reading scale) same_value is_before value_identity before_order

null_rank : (v : Value) → is_null v ≡ true → value_rank v ≡ 5
null_rank Null e = refl
null_rank (Failed f) e = absurd (cc)
null_rank (Number s c) e = refl
null_rank (Text t) e = refl
null_rank (Date d) e = refl

null_above : (v : Value) → is_null v ≡ true → above v ≡ 0
null_above Null e = refl
null_above (Failed f) e = refl
null_above (Number s c) e = absurd (cc)
null_above (Text t) e = refl
null_above (Date d) e = refl

null_below : (v : Value) → is_null v ≡ true → below v ≡ 0
null_below Null e = refl
null_below (Failed f) e = refl
null_below (Number s c) e = absurd (cc)
null_below (Text t) e = refl
null_below (Date d) e = refl

pub reads_nulls : (scale : ℕ) → ReadsNulls (reading scale)
reads_nulls scale = record { no_fault = null_rank; none_above = null_above; none_below = null_below }
