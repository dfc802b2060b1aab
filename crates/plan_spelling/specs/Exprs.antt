-- The numbers that spell values and expressions. Two lists spell a node of an expression, each after
-- its length: the numbers that say what the node is, then the spellings of its parts.
use Rattle.std.specs.Prelude.{ℕ, List, [], ◌∷◌, ◌++◌, length, unsigned_abs, ℤ, pos, negsuc}
use Rattle.std.specs.List.{flat_map}
use Rattle.base_value.specs.declared.truth.Fault.{Fault}
use Rattle.base_value.specs.declared.truth.Fault.TheVariants.{TooManyRows, DivideByZero}
use Rattle.base_value.specs.declared.truth.Fault.TheVariants.{NumberRange}
use Rattle.base_value.specs.declared.value.Value.{Value}
use Rattle.base_value.specs.declared.value.Value.TheVariants as v
use Rattle.expr_operators.specs.declared.operator.Arithmetic.{Arithmetic}
use Rattle.expr_operators.specs.declared.operator.Arithmetic.TheVariants.{Add, Subtract, Multiply}
use Rattle.expr_operators.specs.declared.operator.Arithmetic.TheVariants.{Divide}
use Rattle.expr_operators.specs.declared.operator.Comparison.{Comparison}
use Rattle.expr_operators.specs.declared.operator.Comparison.TheVariants.{Equal, NotEqual, Less}
use Rattle.expr_operators.specs.declared.operator.Comparison.TheVariants.{LessOrEqual, Greater}
use Rattle.expr_operators.specs.declared.operator.Comparison.TheVariants.{GreaterOrEqual}
use Rattle.expr_operators.specs.declared.operator.DatePart.{DatePart}
use Rattle.expr_operators.specs.declared.operator.DatePart.TheVariants.{Year, Month, Day}
use Rattle.expr_scalar.specs.declared.expr.Branch.{Branch}
use Rattle.expr_scalar.specs.declared.expr.Expr.{Expr, Expr-F}
use Rattle.expr_scalar.specs.declared.expr.Expr.TheOpen as f
use Rattle.expr_scalar.specs.declared.expr.Expr.TheFolds.{fold-Expr, fold-Branch, fold-Operation}
use Rattle.expr_scalar.specs.declared.expr.Operation.{Operation}

-- a list of numbers after its length
abbrev pub counted : List ℕ → List ℕ
counted numbers = length numbers ∷ numbers

-- the spellings of parts after their number
abbrev pub parts : List (List ℕ) → List ℕ
parts spellings = length spellings ∷ flat_map (λ s. s) spellings

-- what a node is, and its parts
abbrev pub spelled : List ℕ → List (List ℕ) → List ℕ
spelled what spellings = counted what ++ parts spellings

-- the number of a fault
abbrev pub fault_number : Fault → ℕ
fault_number TooManyRows = 0
fault_number DivideByZero = 1
fault_number NumberRange = 2

-- 1 of a number below 0, else 0
abbrev pub sign_number : ℤ → ℕ
sign_number (pos m) = 0
sign_number (negsuc m) = 1

-- a value: the number of its kind, and what tells it from others of the kind
abbrev pub value_numbers : Value → List ℕ
value_numbers (v.Fault f) = 0 ∷ fault_number f ∷ []
value_numbers (v.Number scale coefficient) =
    1 ∷ scale ∷ sign_number coefficient ∷ unsigned_abs coefficient ∷ []
value_numbers (v.Text bytes) = 2 ∷ bytes
value_numbers (v.Date date) = 3 ∷ date ∷ []
value_numbers v.Null = 4 ∷ []

-- the number of an operator
abbrev pub arithmetic_number : Arithmetic → ℕ
arithmetic_number Add = 0
arithmetic_number Subtract = 1
arithmetic_number Multiply = 2
arithmetic_number Divide = 3

-- the number of a comparison
abbrev pub comparison_number : Comparison → ℕ
comparison_number Equal = 0
comparison_number NotEqual = 1
comparison_number Less = 2
comparison_number LessOrEqual = 3
comparison_number Greater = 4
comparison_number GreaterOrEqual = 5

-- the number of a date's part
abbrev pub part_number : DatePart → ℕ
part_number Year = 0
part_number Month = 1
part_number Day = 2

-- an expression, from the spellings of its parts
abbrev pub expr_step : Expr-F (List ℕ) (List ℕ) (List ℕ) → List ℕ
expr_step (f.Column place) = spelled (0 ∷ place ∷ []) []
expr_step (f.Literal value) = spelled (1 ∷ value_numbers value) []
expr_step (f.Negative e) = spelled (2 ∷ []) (e ∷ [])
expr_step (f.Arithmetic first operations) = spelled (3 ∷ []) (first ∷ operations)
expr_step (f.Case scale branches other) = spelled (4 ∷ scale ∷ []) (other ∷ branches)
expr_step (f.Extract part e) = spelled (5 ∷ part_number part ∷ []) (e ∷ [])
expr_step (f.Substring e from count) = spelled (6 ∷ from ∷ count ∷ []) (e ∷ [])
expr_step (f.Compare comparison a b) = spelled (7 ∷ comparison_number comparison ∷ []) (a ∷ b ∷ [])
expr_step (f.Between e low high) = spelled (8 ∷ []) (e ∷ low ∷ high ∷ [])
expr_step (f.Like e pattern) = spelled (9 ∷ pattern) (e ∷ [])
expr_step (f.InList e es) = spelled (10 ∷ []) (e ∷ es)
expr_step (f.IsNull e) = spelled (11 ∷ []) (e ∷ [])
expr_step (f.Not e) = spelled (12 ∷ []) (e ∷ [])
expr_step (f.All es) = spelled (13 ∷ []) es
expr_step (f.Any es) = spelled (14 ∷ []) es
expr_step (f.IsMarked e) = spelled (15 ∷ []) (e ∷ [])

-- a branch of a CASE: its condition and what it gives
abbrev pub branch_step : f.Branch-F (List ℕ) (List ℕ) (List ℕ) → List ℕ
branch_step b = spelled (16 ∷ []) (b.when ∷ b.gives ∷ [])

-- an operation: its operator and its operand
abbrev pub operation_step : f.Operation-F (List ℕ) (List ℕ) (List ℕ) → List ℕ
operation_step o = spelled (17 ∷ arithmetic_number o.operator ∷ []) (o.operand ∷ [])

-- an expression
unfoldable pub expr_spelling : Expr → List ℕ
expr_spelling = fold-Expr (List ℕ) (List ℕ) (List ℕ) expr_step branch_step operation_step

-- a branch of a CASE
unfoldable pub branch_spelling : Branch → List ℕ
branch_spelling = fold-Branch (List ℕ) (List ℕ) (List ℕ) expr_step branch_step operation_step

-- an operation of a chain
unfoldable pub operation_spelling : Operation → List ℕ
operation_spelling =
    fold-Operation (List ℕ) (List ℕ) (List ℕ) expr_step branch_step operation_step
