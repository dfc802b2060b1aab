-- What expressions are, and which fit: all that does not is TypeMismatch.
use Rattle.std.specs.Prelude.{ℕ, ◌+◌, max, nat_le, Bool, true, false, List, [], ◌∷◌, Ok, Err}
use Rattle.std.specs.Prelude.{if◌then◌else◌}
use Rattle.base_decimal.specs.Decimal.{quotient_scale}
use Rattle.base_decimal.specs.Tally.{average_scale}
use Rattle.expr_aggregates.specs.declared.function.AggregateFunction.{AggregateFunction}
use Rattle.expr_aggregates.specs.declared.function.AggregateFunction.TheVariants.{Count}
use Rattle.expr_aggregates.specs.declared.function.AggregateFunction.TheVariants.{CountDistinct}
use Rattle.expr_aggregates.specs.declared.function.AggregateFunction.TheVariants.{Sum, Avg, Min}
use Rattle.expr_aggregates.specs.declared.function.AggregateFunction.TheVariants.{Max}
use Rattle.base_refusals.specs.declared.bind.BindRefusal.TheVariants.{TypeMismatch, ScaleTooWide}
use Rattle.expr_operators.specs.declared.operator.Arithmetic.{Arithmetic}
use Rattle.expr_operators.specs.declared.operator.Arithmetic.TheVariants.{Add, Subtract, Multiply}
use Rattle.expr_operators.specs.declared.operator.Arithmetic.TheVariants.{Divide}
use Rattle.expr_scalar.specs.declared.kind.Kind.{Kind}
use Rattle.expr_scalar.specs.declared.kind.Kind.TheVariants.{Number, Text, Date}
use Rattle.sql_binder_steps.specs.declared.collected.BoundKind.{BoundKind}
use Rattle.sql_binder_steps.specs.declared.collected.BoundKind.TheVariants.{Value, Condition}
use Rattle.sql_binder_steps.specs.Steps.{Checked, and_then}

-- the value where the test passes, else TypeMismatch
abbrev pub where_fit : {A : Type 0} → Bool → A → Checked A
where_fit b a = if b then Ok a else Err TypeMismatch

-- a condition
abbrev pub is_condition : BoundKind → Bool
is_condition Condition = true
is_condition k = false

-- a value
abbrev pub is_value : BoundKind → Bool
is_value (Value k) = true
is_value k = false

-- a text
abbrev pub is_text : BoundKind → Bool
is_text (Value Text) = true
is_text k = false

-- a date
abbrev pub is_date : BoundKind → Bool
is_date (Value Date) = true
is_date k = false

-- a number
abbrev pub is_number : BoundKind → Bool
is_number (Value (Number s)) = true
is_number k = false

-- values that can be compared: both numbers, both texts or both dates
abbrev pub fits : BoundKind → BoundKind → Bool
fits (Value (Number s)) (Value (Number t)) = true
fits (Value Text) (Value Text) = true
fits (Value Date) (Value Date) = true
fits j k = false

-- a value's kind
abbrev pub value_kind : BoundKind → Checked Kind
value_kind (Value k) = Ok k
value_kind Condition = Err TypeMismatch

-- the scale of numbers; 0 of what is none
abbrev pub scale_of : Kind → ℕ
scale_of (Number s) = s
scale_of k = 0

-- a product has the sum of the scales, which is ScaleTooWide past 18
abbrev pub product_kind : ℕ → ℕ → Checked Kind
product_kind s t = if nat_le (s + t) 18 then Ok (Number (s + t)) else Err ScaleTooWide

-- a sum and a difference have the larger scale, a quotient the larger of the dividend's and 6
abbrev pub result_kind : Arithmetic → ℕ → ℕ → Checked Kind
result_kind Add s t = Ok (Number (max s t))
result_kind Subtract s t = Ok (Number (max s t))
result_kind Multiply s t = product_kind s t
result_kind Divide s t = Ok (Number (quotient_scale s))

-- the scale of numbers, which a value has to be
abbrev pub kind_scale : Kind → Checked ℕ
kind_scale (Number s) = Ok s
kind_scale k = Err TypeMismatch

-- the scale of an operand, which has to be a number
abbrev pub number_scale : BoundKind → Checked ℕ
number_scale k = and_then (value_kind k) kind_scale

-- what an operator gives of two operands, which have to be numbers
abbrev pub operated_kind : Arithmetic → BoundKind → BoundKind → Checked Kind
operated_kind operator j k =
    and_then (number_scale j) (λ s. and_then (number_scale k) (λ t. result_kind operator s t))

-- the kind of two branches of a CASE: numbers have the larger scale
abbrev pub merged_kind : Kind → BoundKind → Checked Kind
merged_kind (Number s) k = and_then (number_scale k) (λ t. Ok (Number (max s t)))
merged_kind Text k = where_fit (is_text k) Text
merged_kind Date k = where_fit (is_date k) Date

-- the kind of a branch and those after it
abbrev pub common_from : Kind → List BoundKind → Checked Kind
common_from j [] = Ok j
common_from j (k ∷ ks) = and_then (merged_kind j k) (λ m. common_from m ks)

-- the kind of all branches
abbrev pub common_kind : List BoundKind → Checked Kind
common_kind [] = Err TypeMismatch
common_kind (k ∷ ks) = and_then (value_kind k) (λ j. common_from j ks)

-- a sum is of numbers, and of their scale
abbrev pub sum_kind : Kind → Checked Kind
sum_kind (Number s) = Ok (Number s)
sum_kind k = Err TypeMismatch

-- an average is of numbers, and has four places more, 18 at most
abbrev pub average_kind : Kind → Checked Kind
average_kind (Number s) = Ok (Number (average_scale s))
average_kind k = Err TypeMismatch

-- a count is a whole number, an extreme is of the kind of its values
abbrev pub function_kind : AggregateFunction → Kind → Checked Kind
function_kind Count k = Ok (Number 0)
function_kind CountDistinct k = Ok (Number 0)
function_kind Sum k = sum_kind k
function_kind Avg k = average_kind k
function_kind Min k = Ok k
function_kind Max k = Ok k

-- what an aggregate gives of its argument, which has to be a value
abbrev pub aggregate_kind : AggregateFunction → BoundKind → Checked Kind
aggregate_kind function k = and_then (value_kind k) (function_kind function)

-- the scale of an aggregate's argument; 0 of what is no number
abbrev pub argument_scale : BoundKind → ℕ
argument_scale (Value k) = scale_of k
argument_scale Condition = 0
