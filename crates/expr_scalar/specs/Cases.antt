-- Small cases of the definitions.
use Rattle.std.specs.Prelude.{◌≡◌, ℕ, ◌^◌, ◌-◌, [], ◌∷◌, pos, negsuc, unwrap_or, Some, None, true}
use Rattle.std.specs.Prelude.{false}
use Rattle.base_value.specs.Truth.{negated}
use Rattle.base_value.specs.declared.truth.Fault.TheVariants.{TooManyRows, DivideByZero, NumberRange}
use Rattle.base_value.specs.declared.truth.Standing.TheVariants.{AtTrue}
use Rattle.base_value.specs.declared.truth.Truth.{Truth}
use Rattle.base_value.specs.declared.truth.Truth.TheVariants.{False, Unknown, Stands}
use Rattle.base_value.specs.declared.value.Value.{Value}
use Rattle.base_value.specs.declared.value.Value.TheVariants.{Null, Fault as Failed, Number, Text}
use Rattle.base_value.specs.declared.value.Value.TheVariants.{Date}
use Rattle.expr_operators.specs.declared.operator.Arithmetic.TheVariants.{Add, Subtract, Multiply}
use Rattle.expr_operators.specs.declared.operator.Arithmetic.TheVariants.{Divide}
use Rattle.expr_operators.specs.declared.operator.Comparison.TheVariants.{Equal, NotEqual, Less}
use Rattle.expr_operators.specs.declared.operator.Comparison.TheVariants.{LessOrEqual, Greater}
use Rattle.expr_operators.specs.declared.operator.Comparison.TheVariants.{GreaterOrEqual}
use Rattle.expr_operators.specs.declared.operator.DatePart.TheVariants.{Year, Month, Day}
use Rattle.expr_scalar.specs.declared.expr.Expr.TheOpen as node
use Rattle.expr_scalar.specs.declared.kind.Kind.TheVariants as kind
use Rattle.expr_scalar.specs.Typing.{Sort, Typing, arithmetic_sort, case_sort, comparable}
use Rattle.expr_scalar.specs.Typing.{condition_step, is_of_kind}
use Rattle.expr_scalar.specs.Typing.Sort.{Unfit, Nulls, Of}
use Rattle.expr_scalar.specs.Meaning.{least, greatest, in_list, decided, first_of}
use Rattle.expr_operators.specs.Operators.{computed, negative, at_scale, extracted, part_of, compared}
use Rattle.expr_operators.specs.Operators.{between, liked, null_test, fault_truth, truth_of_mark}

-- a whole number as a value
abbrev pub whole : ℕ → Value
whole n = Number 0 (pos n)

-- True, as a truth
abbrev pub true_truth : Truth
true_truth = Stands AtTrue

-- 2 / 3, -2 / 3, 1 / 0; 1.5 + 2, 1.5 * 2.25; past 2^127 - 1; null before a fault, and the least
-- fault
abbrev pub Arithmetics : Type 0
Arithmetics = (computed Divide (whole 2) (whole 3) ≡ Number 6 (pos 666667))
    × (computed Divide (Number 0 (negsuc 1)) (whole 3) ≡ Number 6 (negsuc 666666))
    × (computed Divide (whole 1) (whole 0) ≡ Failed DivideByZero)
    × (computed Add (Number 1 (pos 15)) (whole 2) ≡ Number 1 (pos 35))
    × (computed Multiply (Number 1 (pos 15)) (Number 2 (pos 225)) ≡ Number 3 (pos 3375))
    × (computed Add (whole (2 ^ 127 - 1)) (whole 1) ≡ Failed NumberRange)
    × (negative (Number 0 (negsuc (2 ^ 127 - 1))) ≡ Failed NumberRange)
    × (computed Add Null (Failed DivideByZero) ≡ Null)
    × (computed Subtract (Failed NumberRange) (Failed DivideByZero) ≡ Failed DivideByZero)

-- across scales by the values; a null; a fault
abbrev pub Comparisons : Type 0
Comparisons = (compared Equal (whole 1) (Number 2 (pos 100)) ≡ true_truth)
    × (compared Less (Number 2 (pos 150)) (whole 2) ≡ true_truth)
    × (compared Equal Null (Failed DivideByZero) ≡ Unknown)
    × (compared Equal (computed Divide (whole 1) (whole 0)) (whole 1) ≡ fault_truth DivideByZero)
    × (between (whole 7) (whole 5) (whole 7) ≡ true_truth)
    × (between (whole 8) (whole 5) (whole 7) ≡ False)
    × (between (whole 8) Null (whole 7) ≡ False)

-- 1 = 0 and 1 / 0 = 1; 1 / 0 = 1 or 1 = 1; Unknown and False; NOT; IN with a null; IS NULL
abbrev pub Conditions : Type 0
Conditions = (least (False ∷ fault_truth DivideByZero ∷ []) ≡ False)
    × (greatest (fault_truth DivideByZero ∷ true_truth ∷ []) ≡ true_truth)
    × (least (Unknown ∷ False ∷ []) ≡ False)
    × (least (fault_truth NumberRange ∷ fault_truth TooManyRows ∷ true_truth ∷ [])
    ≡ fault_truth TooManyRows)
    × (negated Unknown ≡ Unknown)
    × (negated (fault_truth DivideByZero) ≡ fault_truth DivideByZero)
    × (in_list (whole 3) (whole 9 ∷ Null ∷ []) ≡ Unknown)
    × (in_list (whole 9) (whole 9 ∷ Null ∷ []) ≡ true_truth)
    × (null_test Null ≡ true_truth)
    × (null_test (whole 0) ≡ False)
    × (null_test (Failed DivideByZero) ≡ fault_truth DivideByZero)

-- a branch at True, at a fault, and one that does not decide; a number at CASE's scale
abbrev pub Cases : Type 0
Cases = (first_of (decided Unknown (whole 1)) (decided true_truth (whole 2)) ≡ Some (whole 2))
    × (first_of (decided (fault_truth DivideByZero) (whole 1)) (decided true_truth (whole 2))
    ≡ Some (Failed DivideByZero))
    × (unwrap_or (first_of (decided False (whole 1)) None) Null ≡ Null)
    × (at_scale 2 (whole 1) ≡ Number 2 (pos 100))
    × (at_scale 2 (whole (2 ^ 127 - 1)) ≡ Failed NumberRange)

-- the parts of 1996-02-29; substring('MAIL' from 2 for 2); 'MAIL' like '_A%'; marks
abbrev pub Parts : Type 0
Parts = (extracted Year (Date 19960229) ≡ whole 1996)
    × (extracted Month (Date 19960229) ≡ whole 2)
    × (extracted Day (Date 19960229) ≡ whole 29)
    × (part_of 2 2 (Text (77 ∷ 65 ∷ 73 ∷ 76 ∷ [])) ≡ Text (65 ∷ 73 ∷ []))
    × (liked (95 ∷ 65 ∷ 37 ∷ []) (Text (77 ∷ 65 ∷ 73 ∷ 76 ∷ [])) ≡ true_truth)
    × (liked (37 ∷ []) Null ≡ Unknown)
    × (truth_of_mark (whole 0) ≡ False)
    × (truth_of_mark Null ≡ Unknown)

-- 1.5 - 2; a quotient of a scale past 6; a product past 18 places; a text is no number; no value at
-- a lower scale
abbrev pub MoreArithmetics : Type 0
MoreArithmetics = (computed Subtract (Number 1 (pos 15)) (whole 2) ≡ Number 1 (negsuc 4))
    × (computed Divide (Number 8 (pos 100000000)) (whole 3) ≡ Number 8 (pos 33333333))
    × (computed Multiply (Number 10 (pos 1)) (Number 9 (pos 1)) ≡ Null)
    × (computed Add (Text (49 ∷ [])) (whole 1) ≡ Null)
    × (at_scale 0 (Number 2 (pos 100)) ≡ Null)

-- texts byte by byte without padding; dates; two kinds do not compare; each comparison
abbrev pub MoreComparisons : Type 0
MoreComparisons = (compared Less (Text (97 ∷ [])) (Text (97 ∷ 98 ∷ [])) ≡ true_truth)
    × (compared Less (Date 19960102) (Date 19960103) ≡ true_truth)
    × (compared Equal (Text (49 ∷ [])) (whole 1) ≡ Unknown)
    × (compared NotEqual (whole 1) (whole 2) ≡ true_truth)
    × (compared LessOrEqual (whole 2) (whole 2) ≡ true_truth)
    × (compared Greater (whole 2) (whole 2) ≡ False)
    × (compared GreaterOrEqual (whole 2) (whole 2) ≡ true_truth)

-- OR of two faults is the greater; chains of nothing; NOT of True and of False
abbrev pub MoreConditions : Type 0
MoreConditions =
    (greatest (fault_truth TooManyRows ∷ fault_truth NumberRange ∷ Unknown ∷ [])
    ≡ fault_truth NumberRange)
    × (least [] ≡ true_truth)
    × (greatest [] ≡ False)
    × (in_list (whole 1) [] ≡ False)
    × (negated true_truth ≡ False)
    × (negated False ≡ true_truth)
    × (liked (37 ∷ []) (Failed DivideByZero) ≡ fault_truth DivideByZero)
    × (extracted Year (Failed DivideByZero) ≡ Failed DivideByZero)
    × (part_of 1 1 (Failed NumberRange) ≡ Failed NumberRange)

-- a part of an expression that gives values of that sort
abbrev pub value_part : Sort → Typing
value_part sort = record { sort = λ ks. sort; is_condition = λ ks. false }

-- the kinds of a product, a quotient, a CASE; what does not fit, also as the operand of an IN list
-- without elements
abbrev pub Typings : Type 0
Typings = (arithmetic_sort Multiply (Of (kind.Number 2)) (Of (kind.Number 2)) ≡ Of (kind.Number 4))
    × (arithmetic_sort Multiply (Of (kind.Number 10)) (Of (kind.Number 9)) ≡ Unfit)
    × (arithmetic_sort Divide (Of (kind.Number 2)) (Of (kind.Number 2)) ≡ Of (kind.Number 6))
    × (arithmetic_sort Add (Of (kind.Number 0)) (Of (kind.Number 2)) ≡ Of (kind.Number 2))
    × (arithmetic_sort Add (Of (kind.Number 0)) (Of kind.Text) ≡ Unfit)
    × (case_sort 2 (Of (kind.Number 0) ∷ []) (Of (kind.Number 2)) ≡ Of (kind.Number 2))
    × (case_sort 0 (Of kind.Text ∷ []) Nulls ≡ Of kind.Text)
    × (case_sort 0 (Of kind.Text ∷ []) (Of (kind.Number 0)) ≡ Unfit)
    × (comparable (Of (kind.Number 0)) (Of (kind.Number 2)) ≡ true)
    × (comparable (Of kind.Text) (Of (kind.Number 0)) ≡ false)
    × (is_of_kind (kind.Number 2) (whole 1) ≡ false)
    × (is_of_kind (kind.Number 2) Null ≡ true)
    × (condition_step (node.InList (value_part (Of kind.Text)) (value_part (Of kind.Text) ∷ [])) []
    ≡ true)
    × (condition_step
    (node.InList (value_part (Of kind.Text)) (value_part (Of (kind.Number 0)) ∷ [])) [] ≡ false)
    × (condition_step (node.InList (value_part Unfit) []) [] ≡ false)
