-- What the operators of SQL make of the values of their operands. An operand that is null gives
-- null (or Unknown); else the least fault among the operands wins; a value of a kind that does not
-- fit is taken for null.
use Rattle.std.specs.Prelude.{ℕ, ◌+◌, ◌/◌, ◌%◌, max, nat_le, Bool, not, if◌then◌else◌, List, Result}
use Rattle.std.specs.Prelude.{Ok, Err, ℤ, pos, neg_ℤ}
use Rattle.std.specs.declared.cmp.Ordering.{Ordering}
use Rattle.std.specs.Ordering.{is_lt, is_eq, is_gt, is_le, is_ge, is_ne, nat_cmp, int_eq}
use Rattle.std.specs.Cmp.Lexicographic.{slice_cmp}
use Rattle.base_text.specs.Pattern.{is_like, places}
use Rattle.base_decimal.specs.Decimal.{in_range, rescaled, sum_of, difference_of, product_of}
use Rattle.base_decimal.specs.Decimal.{quotient_of, quotient_scale, decimal_cmp}
use Rattle.base_decimal.specs.declared.arithmetic.NumberFault.{NumberFault}
use Rattle.base_decimal.specs.declared.arithmetic.NumberFault.TheVariants as decimal
use Rattle.base_value.specs.declared.truth.Fault.{Fault}
use Rattle.base_value.specs.declared.truth.Fault.TheVariants.{DivideByZero, NumberRange}
use Rattle.base_value.specs.declared.truth.Standing.TheVariants.{AtFault, AtTrue}
use Rattle.base_value.specs.declared.truth.Truth.{Truth}
use Rattle.base_value.specs.declared.truth.Truth.TheVariants.{False, Unknown, Stands}
use Rattle.base_value.specs.declared.value.Value.{Value}
use Rattle.base_value.specs.declared.value.Value.TheVariants.{Null, Fault as Failed, Number, Text}
use Rattle.base_value.specs.declared.value.Value.TheVariants.{Date}
use Rattle.base_value.specs.Truth.{least_fault, lesser}
use Rattle.expr_operators.specs.declared.operator.Arithmetic.{Arithmetic}
use Rattle.expr_operators.specs.declared.operator.Arithmetic.TheVariants.{Add, Subtract, Multiply}
use Rattle.expr_operators.specs.declared.operator.Arithmetic.TheVariants.{Divide}
use Rattle.expr_operators.specs.declared.operator.Comparison.{Comparison}
use Rattle.expr_operators.specs.declared.operator.Comparison.TheVariants.{Equal, NotEqual, Less}
use Rattle.expr_operators.specs.declared.operator.Comparison.TheVariants.{LessOrEqual, Greater}
use Rattle.expr_operators.specs.declared.operator.Comparison.TheVariants.{GreaterOrEqual}
use Rattle.expr_operators.specs.declared.operator.DatePart.{DatePart}
use Rattle.expr_operators.specs.declared.operator.DatePart.TheVariants.{Year, Month, Day}

-- two operands: null, else the least fault, else what the operator gives
abbrev pub on_two : {A : Type 0} → A → (Fault → A) → (Value → Value → A) → Value → Value → A
on_two null failed f Null y = null
on_two null failed f (Failed a) Null = null
on_two null failed f (Failed a) (Failed b) = failed (least_fault a b)
on_two null failed f (Failed a) y = failed a
on_two null failed f x Null = null
on_two null failed f x (Failed b) = failed b
on_two null failed f x y = f x y

-- a coefficient of that scale, or the fault, as a value
abbrev pub number_or_fault : ℕ → Result ℤ NumberFault → Value
number_or_fault scale (Ok c) = Number scale c
number_or_fault scale (Err decimal.NumberRange) = Failed NumberRange
number_or_fault scale (Err decimal.DivideByZero) = Failed DivideByZero

-- a product; null where its scale would pass 18, which no bound expression has
abbrev pub product : ℕ → ℤ → ℕ → ℤ → Value
product s a t b = if nat_le (s + t) 18 then number_or_fault (s + t) (product_of a b) else Null

-- two numbers a / 10^s and b / 10^t: a sum and a difference are of the larger scale, a product of
-- the scales' sum, a quotient of the larger of s and 6
abbrev pub arithmetic : Arithmetic → ℕ → ℤ → ℕ → ℤ → Value
arithmetic Add s a t b = number_or_fault (max s t) (sum_of a s b t)
arithmetic Subtract s a t b = number_or_fault (max s t) (difference_of a s b t)
arithmetic Multiply s a t b = product s a t b
arithmetic Divide s a t b = number_or_fault (quotient_scale s) (quotient_of a s b t)

-- what is computed of two numbers; null of values that are not both numbers
abbrev pub on_numbers : (ℕ → ℤ → ℕ → ℤ → Value) → Value → Value → Value
on_numbers f (Number s a) (Number t b) = f s a t b
on_numbers f x y = Null

-- x + y, x - y, x * y, x / y
abbrev pub computed : Arithmetic → Value → Value → Value
computed operator x y = on_two Null Failed (on_numbers (arithmetic operator)) x y

-- - x
abbrev pub negative : Value → Value
negative (Failed f) = Failed f
negative (Number s c) = number_or_fault s (in_range (neg_ℤ c))
negative x = Null

-- a value as CASE gives it: a number is rescaled to its scale, which is no less; null where it is
-- less
abbrev pub at_scale : ℕ → Value → Value
at_scale scale (Number s c) =
    if nat_le s scale then number_or_fault scale (rescaled c s scale) else Null
at_scale scale x = x

-- the year, month or day of a date, seen as 10000 * year + 100 * month + day
abbrev pub date_part : DatePart → ℕ → ℕ
date_part Year d = d / 10000
date_part Month d = d / 100 % 100
date_part Day d = d % 100

-- extract(part from x)
abbrev pub extracted : DatePart → Value → Value
extracted part (Failed f) = Failed f
extracted part (Date d) = Number 0 (pos (date_part part d))
extracted part x = Null

-- substring(x from a for b)
abbrev pub part_of : ℕ → ℕ → Value → Value
part_of from count (Failed f) = Failed f
part_of from count (Text t) = Text (places from count t)
part_of from count x = Null

-- True where a test passes, else False
abbrev pub truth_of : Bool → Truth
truth_of b = if b then Stands AtTrue else False

-- a fault as a truth
abbrev pub fault_truth : Fault → Truth
fault_truth f = Stands (AtFault f)

-- whether a comparison holds of two values in this order
abbrev pub holds : Comparison → Ordering → Bool
holds Equal order = is_eq order
holds NotEqual order = is_ne order
holds Less order = is_lt order
holds LessOrEqual order = is_le order
holds Greater order = is_gt order
holds GreaterOrEqual order = is_ge order

-- numbers are compared by their values a / 10^s and b / 10^t, texts byte by byte, dates in the
-- calendar's order
abbrev pub compared_alike : Comparison → Value → Value → Truth
compared_alike c (Number s a) (Number t b) = truth_of (holds c (decimal_cmp a s b t))
compared_alike c (Text a) (Text b) = truth_of (holds c (slice_cmp nat_cmp a b))
compared_alike c (Date a) (Date b) = truth_of (holds c (nat_cmp a b))
compared_alike c x y = Unknown

-- x = y, x <> y, x < y, x <= y, x > y, x >= y
abbrev pub compared : Comparison → Value → Value → Truth
compared c x y = on_two Unknown fault_truth (compared_alike c) x y

-- x between least and greatest
abbrev pub between : Value → Value → Value → Truth
between x least greatest =
    lesser (compared GreaterOrEqual x least) (compared LessOrEqual x greatest)

-- x like pattern
abbrev pub liked : List ℕ → Value → Truth
liked pattern (Failed f) = fault_truth f
liked pattern (Text t) = truth_of (is_like pattern t)
liked pattern x = Unknown

-- x is null
abbrev pub null_test : Value → Truth
null_test Null = Stands AtTrue
null_test (Failed f) = fault_truth f
null_test x = False

-- a truth as a value: 1 for True, 0 for False, null for Unknown, and a fault
abbrev pub mark_of : Truth → Value
mark_of False = Number 0 (pos 0)
mark_of Unknown = Null
mark_of (Stands (AtFault f)) = Failed f
mark_of (Stands AtTrue) = Number 0 (pos 1)

-- the truth that a mark stands for
abbrev pub truth_of_mark : Value → Truth
truth_of_mark (Failed f) = fault_truth f
truth_of_mark (Number s c) = truth_of (not (int_eq c (pos 0)))
truth_of_mark x = Unknown
