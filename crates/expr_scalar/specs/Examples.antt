-- Expressions worked out by hand, at least one for each node, over rows of the table region: a key,
-- a name, a comment.
use Rattle.std.specs.Prelude.{◌≡◌, ℕ, ◌^◌, ◌-◌, List, [], ◌∷◌, pos, negsuc}
use Rattle.base_value.specs.declared.truth.Fault.TheVariants.{DivideByZero, NumberRange}
use Rattle.base_value.specs.declared.truth.Truth.TheVariants.{False, Unknown}
use Rattle.base_value.specs.declared.value.Value.{Value}
use Rattle.base_value.specs.declared.value.Value.TheVariants.{Null, Fault as Failed, Number, Text}
use Rattle.base_value.specs.declared.value.Value.TheVariants.{Date}
use Rattle.expr_operators.specs.declared.operator.Arithmetic.{Arithmetic}
use Rattle.expr_operators.specs.declared.operator.Arithmetic.TheVariants.{Add, Subtract, Divide}
use Rattle.expr_operators.specs.declared.operator.Comparison.TheVariants.{Equal, Greater}
use Rattle.expr_operators.specs.declared.operator.DatePart.TheVariants.{Month}
use Rattle.expr_scalar.specs.declared.expr.Expr.{Expr}
use Rattle.expr_scalar.specs.declared.expr.Expr.TheVariants as e
use Rattle.expr_scalar.specs.declared.expr.Operation.{Operation}
use Rattle.expr_scalar.specs.Cases.{whole, true_truth}
use Rattle.expr_scalar.specs.Meaning.{value, truth}
use Rattle.expr_operators.specs.Operators.{fault_truth}

-- a whole number, written
abbrev pub number : ℕ → Expr
number n = e.Literal (whole n)

-- null, written
abbrev pub null : Expr
null = e.Literal Null

-- an operator with its right operand
abbrev pub by : Arithmetic → Expr → Operation
by operator operand = record { operator = operator; operand = operand }

-- r_regionkey
abbrev pub key : Expr
key = e.Column 0

-- 'ASIA'
abbrev pub asia : List ℕ
asia = 65 ∷ 83 ∷ 73 ∷ 65 ∷ []

-- the region of that key, called ASIA, with an empty comment
abbrev pub region : ℕ → List Value
region n = whole n ∷ Text asia ∷ Text [] ∷ []

-- 1 / 0
abbrev pub quotient_by_zero : Expr
quotient_by_zero = e.Arithmetic (number 1) (by Divide (number 0) ∷ [])

-- 1 / 0 = 1
abbrev pub zero_divides : Expr
zero_divides = e.Compare Equal quotient_by_zero (number 1)

-- r_regionkey > 2 and (1 / 0 = 1 or 1 = 1)
abbrev pub above_two : Expr
above_two =
    e.All (e.Compare Greater key (number 2)
    ∷ e.Any (zero_divides ∷ e.Compare Equal (number 1) (number 1) ∷ []) ∷ [])

-- 2^127 - 1, the largest coefficient
abbrev pub largest : ℕ
largest = 2 ^ 127 - 1

-- case when r_regionkey = 0 then largest when r_regionkey = 1 then 1 else -1 end
abbrev pub three_ways : Expr
three_ways = e.Case 0
    (record { when = e.Compare Equal key (number 0); gives = number largest }
    ∷ record { when = e.Compare Equal key (number 1); gives = number 1 } ∷ [])
    (e.Negative (number 1))

-- case when 1 / 0 = 1 then 1 else 1.50 end
abbrev pub undecided : Expr
undecided =
    e.Case 2 (record { when = zero_divides; gives = number 1 } ∷ [])
    (e.Literal (Number 2 (pos 150)))

-- r_regionkey in (9, null)
abbrev pub listed : Expr
listed = e.InList key (number 9 ∷ null ∷ [])

-- 2 / 3, -2 / 3, largest + 1, 9 - 3 - 2
abbrev pub WorkedNumbers : Type 0
WorkedNumbers =
    (value (e.Arithmetic (number 2) (by Divide (number 3) ∷ [])) [] ≡ Number 6 (pos 666667))
    × (value (e.Arithmetic (e.Negative (number 2)) (by Divide (number 3) ∷ [])) []
    ≡ Number 6 (negsuc 666666))
    × (value (e.Arithmetic (number largest) (by Add (number 1) ∷ [])) [] ≡ Failed NumberRange)
    × (value (e.Arithmetic (number 9) (by Subtract (number 3) ∷ by Subtract (number 2) ∷ [])) []
    ≡ whole 4)

-- columns, there or not; the ways of a CASE; a branch at a fault; parts of texts and dates
abbrev pub WorkedValues : Type 0
WorkedValues = (value key (region 3) ≡ whole 3)
    × (value (e.Column 9) (region 3) ≡ Null)
    × (value three_ways (region 0) ≡ whole largest)
    × (value three_ways (region 1) ≡ whole 1)
    × (value three_ways (region 2) ≡ Number 0 (negsuc 0))
    × (value undecided (region 2) ≡ Failed DivideByZero)
    × (value (e.Substring (e.Column 1) 2 2) (region 3) ≡ Text (83 ∷ 73 ∷ []))
    × (value (e.Extract Month (e.Literal (Date 19960131))) [] ≡ whole 1)

-- 1 = 0 and 1 / 0 = 1; above_two; 1 / 0 = 1, and not so
abbrev pub WorkedConditions : Type 0
WorkedConditions =
    (truth (e.All (e.Compare Equal (number 1) (number 0) ∷ zero_divides ∷ [])) (region 3) ≡ False)
    × (truth above_two (region 3) ≡ true_truth)
    × (truth above_two (region 4) ≡ true_truth)
    × (truth above_two (region 2) ≡ False)
    × (truth zero_divides (region 3) ≡ fault_truth DivideByZero)
    × (truth (e.Not zero_divides) (region 3) ≡ fault_truth DivideByZero)

-- BETWEEN at its ends; LIKE; IN and NOT IN with a null; IS NULL of a null and of a fault; marks
abbrev pub WorkedTests : Type 0
WorkedTests = (truth (e.Between key (number 1) (number 3)) (region 3) ≡ true_truth)
    × (truth (e.Between key (number 1) (number 3)) (region 0) ≡ False)
    × (truth (e.Like (e.Column 1) (95 ∷ 83 ∷ 37 ∷ [])) (region 3) ≡ true_truth)
    × (truth listed (region 9) ≡ true_truth)
    × (truth (e.Not listed) (region 9) ≡ False)
    × (truth (e.Not listed) (region 3) ≡ Unknown)
    × (truth (e.IsNull null) (region 3) ≡ true_truth)
    × (truth (e.IsNull key) (region 3) ≡ False)
    × (truth (e.IsNull quotient_by_zero) (region 3) ≡ fault_truth DivideByZero)
    × (truth (e.IsMarked (number 1)) (region 3) ≡ true_truth)
    × (truth (e.IsMarked null) (region 3) ≡ Unknown)
