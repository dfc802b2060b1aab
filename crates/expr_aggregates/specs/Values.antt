-- What the operators on rows read of a value and how they write one, and the aggregates of a list
-- of values.
use Rattle.std.specs.Prelude.{ℕ, zero, suc, ◌+◌, Bool, true, false, List, ℤ, pos, negsuc, ◌-ℤ◌}
use Rattle.std.specs.Prelude.{Result, Ok, Err}
use Rattle.std.specs.Ordering.{is_le}
use Rattle.base_decimal.specs.declared.arithmetic.NumberFault.{NumberFault}
use Rattle.base_decimal.specs.declared.arithmetic.NumberFault.TheVariants as decimal
use Rattle.base_decimal.specs.Tally.{sums, average_scale, average_of}
use Rattle.base_row_laws.specs.Ranked.{true_rank}
use Rattle.base_row_laws.specs.Aggregates.{Reading, count_rows, count_of, count_distinct_of, sum_of}
use Rattle.base_row_laws.specs.Aggregates.{avg_of, min_of, max_of}
use Rattle.base_value.specs.declared.truth.Fault.TheVariants.{TooManyRows, DivideByZero, NumberRange}
use Rattle.base_value.specs.declared.value.Value.{Value}
use Rattle.base_value.specs.declared.value.Value.TheVariants.{Null, Fault as Failed, Number, Text}
use Rattle.base_value.specs.declared.value.Value.TheVariants.{Date}
use Rattle.base_value.specs.Truth.{fault_rank}
use Rattle.base_value.specs.Value.{same_value, value_cmp}
use Rattle.expr_aggregates.specs.declared.function.AggregateFunction.{AggregateFunction}
use Rattle.expr_aggregates.specs.declared.function.AggregateFunction.TheVariants.{Count, CountDistinct}
use Rattle.expr_aggregates.specs.declared.function.AggregateFunction.TheVariants.{Sum, Avg, Min, Max}

-- a rank of the chain as a value: 0 for False, null for Unknown, a fault, and 1 for True
abbrev pub written : ℕ → Value
written zero = Number 0 (pos 0)
written (suc zero) = Null
written (suc (suc zero)) = Failed TooManyRows
written (suc (suc (suc zero))) = Failed DivideByZero
written (suc (suc (suc (suc zero)))) = Failed NumberRange
written (suc (suc (suc (suc (suc n))))) = Number 0 (pos 1)

-- a fault's rank, and True's for a value that is none
abbrev pub value_rank : Value → ℕ
value_rank (Failed f) = fault_rank f
value_rank v = true_rank

-- whether a value is null
abbrev pub is_null : Value → Bool
is_null Null = true
is_null v = false

-- a number's coefficient where it is above 0, else 0
abbrev pub above : Value → ℕ
above (Number s (pos n)) = n
above v = 0

-- how far a number's coefficient is below 0, where it is, else 0
abbrev pub below : Value → ℕ
below (Number s (negsuc n)) = n + 1
below v = 0

-- what aggregates read of a value, and how they write one; sums are numbers of this scale
abbrev pub reading : ℕ → Reading Value
reading scale = record {
  is_null = is_null;
  fault_rank = value_rank;
  above = above;
  below = below;
  write = written;
  number = λ a b. Number scale (pos a -ℤ pos b);
}

-- a coefficient of a scale, or its fault, as a value
abbrev pub number_or_fault : ℕ → Result ℤ NumberFault → Value
number_or_fault scale (Ok c) = Number scale c
number_or_fault scale (Err decimal.NumberRange) = Failed NumberRange
number_or_fault scale (Err decimal.DivideByZero) = Failed DivideByZero

-- (a - b) / n as an average of numbers of this scale, or its fault
abbrev pub divided : ℕ → ℕ → ℕ → ℕ → Value
divided scale a b n = number_or_fault (average_scale scale) (average_of (sums n a b) scale)

-- whether a value does not come after another in ascending order
abbrev pub is_before : Value → Value → Bool
is_before v w = is_le (value_cmp v w)

-- an aggregate of a list of values, its argument's numbers being of this scale
abbrev pub aggregate_of : AggregateFunction → ℕ → List Value → Value
aggregate_of Count scale = count_of (reading 0)
aggregate_of CountDistinct scale = count_distinct_of (reading 0) same_value
aggregate_of Sum scale = sum_of (reading scale)
aggregate_of Avg scale = avg_of (reading scale) (divided scale)
aggregate_of Min scale = min_of (reading scale) is_before
aggregate_of Max scale = max_of (reading scale) is_before
