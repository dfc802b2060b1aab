-- Values and operators from their numbers.
use Rattle.std.proofs.Common.{◌≡◌, ℕ, zero, suc, List, [], ◌∷◌, refl, ap}
use Rattle.std.specs.Prelude.{◌==◌, if◌then◌else◌, Option, None, Some, ℤ, pos, negsuc, true, false}
use Rattle.base_set_rows.specs.declared.kind.ClassKind.TheVariants.{Intersect, Except}
use Rattle.base_set_rows.specs.declared.kind.SetOperation.{SetOperation}
use Rattle.base_set_rows.specs.declared.kind.SetOperation.TheVariants.{Union, Classes}
use Rattle.base_value.specs.declared.truth.Fault.{Fault}
use Rattle.base_value.specs.declared.truth.Fault.TheVariants.{TooManyRows, DivideByZero, NumberRange}
use Rattle.base_value.specs.declared.value.Value.{Value}
use Rattle.base_value.specs.declared.value.Value.TheVariants as v
use Rattle.expr_operators.specs.declared.operator.Arithmetic.{Arithmetic}
use Rattle.expr_operators.specs.declared.operator.Arithmetic.TheVariants.{Add, Subtract, Multiply, Divide}
use Rattle.expr_operators.specs.declared.operator.Comparison.{Comparison}
use Rattle.expr_operators.specs.declared.operator.Comparison.TheVariants.{Equal, NotEqual, Less, LessOrEqual, Greater, GreaterOrEqual}
use Rattle.expr_operators.specs.declared.operator.DatePart.{DatePart}
use Rattle.expr_operators.specs.declared.operator.DatePart.TheVariants.{Year, Month, Day}
use Rattle.expr_aggregates.specs.declared.function.AggregateFunction.{AggregateFunction}
use Rattle.expr_aggregates.specs.declared.function.AggregateFunction.TheVariants.{Count, CountDistinct, Sum, Avg, Min, Max}
use Rattle.plan_spelling.specs.Plans.{function_number, operation_number, pair_numbers}
use Rattle.plan_spelling.specs.Exprs.{arithmetic_number, comparison_number, fault_number, part_number, value_numbers}

abbrev pub arithmetic_of : ℕ → Arithmetic
arithmetic_of n = if n == 0 then Add else (if n == 1 then Subtract else (if n == 2 then Multiply else Divide))

pub arithmetic_back : (a : Arithmetic) → arithmetic_of (arithmetic_number a) ≡ a
arithmetic_back Add = refl
arithmetic_back Subtract = refl
arithmetic_back Multiply = refl
arithmetic_back Divide = refl

abbrev pub comparison_of : ℕ → Comparison
comparison_of n =
    if n == 0 then Equal else (if n == 1 then NotEqual else (if n == 2 then Less else (if n == 3 then LessOrEqual else (if n == 4 then Greater else GreaterOrEqual))))

pub comparison_back : (c : Comparison) → comparison_of (comparison_number c) ≡ c
comparison_back Equal = refl
comparison_back NotEqual = refl
comparison_back Less = refl
comparison_back LessOrEqual = refl
comparison_back Greater = refl
comparison_back GreaterOrEqual = refl

abbrev pub part_of : ℕ → DatePart
part_of n = if n == 0 then Year else (if n == 1 then Month else Day)

pub part_back : (p : DatePart) → part_of (part_number p) ≡ p
part_back Year = refl
part_back Month = refl
part_back Day = refl

abbrev fault_of : ℕ → Fault
fault_of n = if n == 0 then TooManyRows else (if n == 1 then DivideByZero else NumberRange)

fault_back : (f : Fault) → fault_of (fault_number f) ≡ f
fault_back TooManyRows = refl
fault_back DivideByZero = refl
fault_back NumberRange = refl

abbrev failed : List ℕ → Option Value
failed (n ∷ []) = Some (v.Fault (fault_of n))
failed other = None

abbrev below : ℕ → ℤ
below zero = pos zero
below (suc m) = negsuc m

abbrev number : List ℕ → Option Value
number (scale ∷ sign ∷ m ∷ []) = Some (v.Number scale (if sign == 0 then pos m else below m))
number other = None

abbrev dated : List ℕ → Option Value
dated (n ∷ []) = Some (v.Date n)
dated other = None

abbrev pub value_of : List ℕ → Option Value
value_of [] = None
value_of (tag ∷ rest) =
    if tag == 0 then failed rest else (if tag == 1 then number rest else (if tag == 2 then Some (v.Text rest) else (if tag == 3 then dated rest else Some v.Null)))

pub value_back : (x : Value) → value_of (value_numbers x) ≡ Some x
value_back (v.Fault f) = ap (λ g. Some (v.Fault g)) (fault_back f)
value_back (v.Number scale (pos m)) = refl
value_back (v.Number scale (negsuc m)) = refl
value_back (v.Text bytes) = refl
value_back (v.Date date) = refl
value_back v.Null = refl

abbrev pub function_of : ℕ → AggregateFunction
function_of n =
    if n == 0 then Count else (if n == 1 then CountDistinct else (if n == 2 then Sum else (if n == 3 then Avg else (if n == 4 then Min else Max))))

pub function_back : (f : AggregateFunction) → function_of (function_number f) ≡ f
function_back Count = refl
function_back CountDistinct = refl
function_back Sum = refl
function_back Avg = refl
function_back Min = refl
function_back Max = refl

abbrev pub set_operation_of : ℕ → SetOperation
set_operation_of n =
    if n == 0 then Union else (if n == 1 then Classes Intersect false else (if n == 2 then Classes Intersect true else (if n == 3 then Classes Except false else Classes Except true)))

pub set_operation_back : (o : SetOperation) → set_operation_of (operation_number o) ≡ o
set_operation_back Union = refl
set_operation_back (Classes Intersect false) = refl
set_operation_back (Classes Intersect true) = refl
set_operation_back (Classes Except false) = refl
set_operation_back (Classes Except true) = refl

abbrev pub pairs_of : List ℕ → List (ℕ × ℕ)
pairs_of [] = []
pairs_of (a ∷ []) = []
pairs_of (a ∷ b ∷ rest) = (a, b) ∷ pairs_of rest

pub pairs_back : (pairs : List (ℕ × ℕ)) → pairs_of (pair_numbers pairs) ≡ pairs
pairs_back [] = refl
pairs_back (pair ∷ pairs) = ap (λ ps. pair ∷ ps) (pairs_back pairs)
