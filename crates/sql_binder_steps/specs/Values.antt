-- What is made of operands that are bound.
use Rattle.std.specs.Prelude.{ℕ, ◌^◌, true, ◌&&◌, List, [], ◌∷◌, ◌++◌, length}
use Rattle.std.specs.Prelude.{Option, Some, None, Result, Ok, Err, ℤ, pos, neg_ℤ, if◌then◌else◌}
use Rattle.std.specs.Prelude.{nat_le, nat_lt, ok_or}
use Rattle.std.specs.List.{list_all}
use Rattle.base_date.specs.Date.{date_of, number_of}
use Rattle.base_date.specs.Move.{moved}
use Rattle.base_date.specs.declared.DateFault.{DateFault}
use Rattle.base_date.specs.declared.DateFault.TheVariants as fault
use Rattle.base_date.specs.declared.moved.IntervalUnit.{IntervalUnit}
use Rattle.base_date.specs.declared.moved.IntervalUnit.TheVariants as unit
use Rattle.base_refusals.specs.declared.bind.BindRefusal.TheVariants.{TypeMismatch}
use Rattle.base_refusals.specs.declared.bind.BindRefusal.TheVariants.{IntervalOnColumn}
use Rattle.base_refusals.specs.declared.bind.BindRefusal.TheVariants.{BadDate, DateRange}
use Rattle.expr_operators.specs.declared.operator.Arithmetic.{Arithmetic}
use Rattle.expr_operators.specs.declared.operator.Arithmetic.TheVariants.{Add, Subtract, Multiply}
use Rattle.expr_operators.specs.declared.operator.Arithmetic.TheVariants.{Divide}
use Rattle.expr_scalar.specs.declared.expr.Branch.{Branch}
use Rattle.expr_operators.specs.declared.operator.Comparison.{Comparison}
use Rattle.expr_operators.specs.declared.operator.Comparison.TheVariants.{Equal, NotEqual, Less}
use Rattle.expr_operators.specs.declared.operator.Comparison.TheVariants.{LessOrEqual, Greater}
use Rattle.expr_operators.specs.declared.operator.Comparison.TheVariants.{GreaterOrEqual}
use Rattle.expr_operators.specs.declared.operator.DatePart.{DatePart}
use Rattle.expr_operators.specs.declared.operator.DatePart.TheVariants.{Year, Month, Day}
use Rattle.expr_scalar.specs.declared.expr.Expr.{Expr}
use Rattle.expr_scalar.specs.declared.expr.Expr.TheVariants as e
use Rattle.expr_scalar.specs.declared.expr.Operation.{Operation}
use Rattle.expr_scalar.specs.declared.kind.Kind.TheVariants as kind
use Rattle.sql_ast.specs.declared.words.Adding.{Adding}
use Rattle.sql_ast.specs.declared.words.Adding.TheVariants.{Plus, Minus}
use Rattle.sql_ast.specs.declared.words.Comparison.{Comparison as Compared}
use Rattle.sql_ast.specs.declared.words.Comparison.TheVariants as written
use Rattle.sql_ast.specs.declared.words.Multiplying.{Multiplying}
use Rattle.sql_ast.specs.declared.words.Multiplying.TheVariants as factor
use Rattle.sql_ast.specs.declared.words.Span.{Span}
use Rattle.sql_ast.specs.declared.words.Span.TheVariants as span
use Rattle.base_value.specs.declared.value.Value.TheVariants as value
use Rattle.sql_binder_steps.specs.declared.collected.BoundKind.{BoundKind}
use Rattle.sql_binder_steps.specs.declared.collected.BoundKind.TheVariants.{Value, Condition}
use Rattle.sql_binder_steps.specs.declared.collected.Chain.{Chain}
use Rattle.sql_binder_steps.specs.declared.collected.Conditions.{Conditions}
use Rattle.sql_binder_steps.specs.declared.collected.Operands.{Operands}
use Rattle.sql_binder_steps.specs.declared.collected.Typed.{Typed}
use Rattle.sql_binder_steps.specs.Steps.{Checked, and_then}
use Rattle.sql_binder_steps.specs.Kinds.{where_fit, is_condition, is_value, is_text, is_date}
use Rattle.sql_binder_steps.specs.Kinds.{is_number}
use Rattle.sql_binder_steps.specs.Kinds.{fits, scale_of, operated_kind, common_kind}

-- an expression of that kind, which is no date literal
abbrev pub typed : Expr → BoundKind → Typed
typed v k = record { value = v; kind = k; date = None }

-- a date literal
abbrev pub dated : ℕ → Typed
dated d = record { value = e.Literal (value.Date d); kind = Value kind.Date; date = Some d }

-- a date literal's text, as it is read: BadDate where it spells no date
abbrev pub dated_by : Result ℕ DateFault → Checked Typed
dated_by (Ok d) = Ok (dated d)
dated_by (Err fault) = Err BadDate

-- a date written out: BadDate where the calendar has no such day
unfoldable pub date_literal : List ℕ → Checked Typed
date_literal text = dated_by (ok_or (date_of text) fault.BadDate)

-- - a
unfoldable pub negative : Typed → Checked Typed
negative a = where_fit (is_number a.kind) (typed (e.Negative a.value) a.kind)

-- a = b and the other comparisons
abbrev pub comparison_of : Compared → Comparison
comparison_of written.Equal = Equal
comparison_of written.NotEqual = NotEqual
comparison_of written.Less = Less
comparison_of written.LessOrEqual = LessOrEqual
comparison_of written.Greater = Greater
comparison_of written.GreaterOrEqual = GreaterOrEqual

-- a comparison of two operands whose kinds fit
unfoldable pub compared : Compared → Typed → Typed → Checked Typed
compared c a b = where_fit (fits a.kind b.kind)
    (typed (e.Compare (comparison_of c) a.value b.value) Condition)

-- a is null
unfoldable pub null_test : Typed → Checked Typed
null_test a = where_fit (is_value a.kind) (typed (e.IsNull a.value) Condition)

-- a between low and high
unfoldable pub between : Typed → Typed → Typed → Checked Typed
between a low high = where_fit (fits a.kind low.kind && fits a.kind high.kind)
    (typed (e.Between a.value low.value high.value) Condition)

-- a like pattern
unfoldable pub liked : Typed → List ℕ → Checked Typed
liked a pattern = where_fit (is_text a.kind) (typed (e.Like a.value pattern) Condition)

-- a in (..)
unfoldable pub in_list : Typed → Operands → Checked Typed
in_list a list = where_fit (is_value a.kind && list_all (fits a.kind) list.kinds)
    (typed (e.InList a.value list.values) Condition)

-- not a
unfoldable pub denied : Typed → Checked Typed
denied a = where_fit (is_condition a.kind) (typed (e.Not a.value) Condition)

-- a part of a date
abbrev pub part_of : Span → DatePart
part_of span.Year = Year
part_of span.Month = Month
part_of span.Day = Day

-- a part of a date, as a whole number
unfoldable pub extracted : Span → Typed → Checked Typed
extracted s a = where_fit (is_date a.kind)
    (typed (e.Extract (part_of s) a.value) (Value (kind.Number 0)))

-- a part of a text, whose first place is at least 1
unfoldable pub substring : Typed → ℕ → ℕ → Checked Typed
substring a from count =
    where_fit (is_text a.kind && nat_lt 0 from)
    (typed (e.Substring a.value from count) (Value kind.Text))

-- ---- chains of operations

-- the first operand
abbrev pub begun : Typed → Chain
begun a = record { value = a.value; operations = []; kind = a.kind; date = a.date }

-- + and -
abbrev pub adding_of : Adding → Arithmetic
adding_of Plus = Add
adding_of Minus = Subtract

-- * and /
abbrev pub multiplying_of : Multiplying → Arithmetic
multiplying_of factor.Times = Multiply
multiplying_of factor.Divide = Divide

-- one operation more
unfoldable pub operated : Arithmetic → Chain → Typed → Checked Chain
operated operator c b =
    and_then (operated_kind operator c.kind b.kind) (λ k. Ok (record {
      value = c.value;
      operations = c.operations ++ record { operator = operator; operand = b.value } ∷ [];
      kind = Value k;
      date = None;
    }))

-- a number of six digits at most
abbrev pub short_number : Option ℕ → Option ℕ
short_number None = None
short_number (Some n) = if nat_lt n (10 ^ 6) then Some n else None

-- an interval's digits, six at most
abbrev pub interval_count : List ℕ → Option ℕ
interval_count text = if nat_le (length text) 6 then short_number (number_of text) else None

-- a unit of intervals
abbrev pub unit_of : Span → IntervalUnit
unit_of span.Year = unit.Year
unit_of span.Month = unit.Month
unit_of span.Day = unit.Day

-- a number added or taken away
abbrev pub signed : Adding → ℕ → ℤ
signed Plus n = pos n
signed Minus n = neg_ℤ (pos n)

-- a date that was moved: DateRange outside the years 1 to 9999
abbrev pub in_date_range : Result ℕ DateFault → Checked ℕ
in_date_range (Ok d) = Ok d
in_date_range (Err fault) = Err DateRange

-- a date literal moved by an interval; what is none is IntervalOnColumn
abbrev pub moved_by : Option ℕ → Adding → Option ℕ → Span → Checked ℕ
moved_by None operator count s = Err IntervalOnColumn
moved_by (Some d) operator None s = Err IntervalOnColumn
moved_by (Some d) operator (Some n) s = in_date_range (moved d (signed operator n) (unit_of s))

-- the chain of a date literal alone
abbrev pub date_chain : ℕ → Chain
date_chain d = begun (dated d)

-- an interval added or taken away
unfoldable pub shifted : Adding → Chain → List ℕ → Span → Checked Chain
shifted operator c text s =
    and_then (moved_by c.date operator (interval_count text) s) (λ d. Ok (date_chain d))

-- a chain of no operations is its first operand
abbrev pub ended_by : Expr → List Operation → BoundKind → Option ℕ → Typed
ended_by v [] k d = record { value = v; kind = k; date = d }
ended_by v (o ∷ os) k d = typed (e.Arithmetic v (o ∷ os)) k

-- the whole chain
unfoldable pub ended : Chain → Typed
ended c = ended_by c.value c.operations c.kind c.date

-- ---- AND and OR

-- the first operand, which is tested with the second one
unfoldable pub first_condition : Typed → Conditions
first_condition a = record { values = a.value ∷ []; are_conditions = is_condition a.kind }

-- one operand more: all have to be conditions
unfoldable pub next_condition : Conditions → Typed → Checked Conditions
next_condition c a = where_fit (c.are_conditions && is_condition a.kind)
    (record { values = c.values ++ a.value ∷ []; are_conditions = true })

-- AND
unfoldable pub all_of : Conditions → Checked Typed
all_of c = where_fit c.are_conditions (typed (e.All c.values) Condition)

-- OR
unfoldable pub any_of : Conditions → Checked Typed
any_of c = where_fit c.are_conditions (typed (e.Any c.values) Condition)

-- ---- CASE

-- no operands
abbrev pub no_operands : Operands
no_operands = record { values = []; kinds = [] }

-- one operand more
abbrev pub with_operand : Operands → Typed → Operands
with_operand done a = record {
  values = done.values ++ a.value ∷ [];
  kinds = done.kinds ++ a.kind ∷ [];
}

-- each condition with its branch
abbrev pub branches : List Expr → List Expr → List Branch
branches [] gives = []
branches (w ∷ whens) [] = []
branches (w ∷ whens) (g ∷ gives) = record { when = w; gives = g } ∷ branches whens gives

-- conditions, the kinds of all branches, the branches, and ELSE
unfoldable pub chosen : Operands → List BoundKind → List Expr → Expr → Checked Typed
chosen whens kinds gives other =
    if list_all is_condition whens.kinds
    then and_then (common_kind kinds)
    (λ k. Ok (typed (e.Case (scale_of k) (branches whens.values gives) other) (Value k)))
    else Err TypeMismatch

-- without ELSE
unfoldable pub case_of : Operands → Operands → Checked Typed
case_of whens gives = chosen whens gives.kinds gives.values (e.Literal value.Null)

-- with ELSE
unfoldable pub case_else_of : Operands → Operands → Typed → Checked Typed
case_else_of whens gives other =
    chosen whens (gives.kinds ++ other.kind ∷ []) gives.values other.value
