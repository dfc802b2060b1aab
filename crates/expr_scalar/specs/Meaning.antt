-- The value and the truth of an expression over a row. A condition's value is null, and the truth
-- of any other expression is Unknown.
use Rattle.std.specs.Prelude.{List, [], ◌∷◌, map, fold, Option, Some, None, unwrap_or}
use Rattle.std.specs.Prelude.{slice_index_or}
use Rattle.base_value.specs.declared.truth.Standing.TheVariants.{AtFault, AtTrue}
use Rattle.base_value.specs.declared.truth.Truth.{Truth}
use Rattle.base_value.specs.declared.truth.Truth.TheVariants.{False, Unknown, Stands}
use Rattle.base_value.specs.declared.value.Value.{Value}
use Rattle.base_value.specs.declared.value.Value.TheVariants.{Null, Fault as Failed}
use Rattle.base_value.specs.Truth.{lesser, greater, negated}
use Rattle.expr_scalar.specs.declared.expr.Branch.{Branch}
use Rattle.expr_operators.specs.declared.operator.Comparison.TheVariants.{Equal}
use Rattle.expr_scalar.specs.declared.expr.Expr.{Expr, Expr-F}
use Rattle.expr_scalar.specs.declared.expr.Expr.TheOpen.{Branch-F, Operation-F, Column, Literal}
use Rattle.expr_scalar.specs.declared.expr.Expr.TheOpen.{Negative, Arithmetic, Case, Extract}
use Rattle.expr_scalar.specs.declared.expr.Expr.TheOpen.{Substring, Compare, Between, Like, InList}
use Rattle.expr_scalar.specs.declared.expr.Expr.TheOpen.{IsNull, Not, All, Any, IsMarked}
use Rattle.expr_scalar.specs.declared.expr.Expr.TheFolds.{fold-Expr, fold-Branch, fold-Operation}
use Rattle.expr_scalar.specs.declared.expr.Operation.{Operation}
use Rattle.expr_operators.specs.Operators.{computed, negative, at_scale, extracted, part_of, compared}
use Rattle.expr_operators.specs.Operators.{between, liked, null_test, truth_of_mark}

-- what an expression means over a row
pub record Meaning : Type 0 where
  pub value : List Value → Value
  pub truth : List Value → Truth

-- what a branch of a CASE gives over a row, if it decides
abbrev pub BranchMeaning : Type 0
BranchMeaning = List Value → Option Value

-- what an operation makes of the value on its left, over a row
abbrev pub OperationMeaning : Type 0
OperationMeaning = Value → List Value → Value

-- at True a branch gives its value, at a fault the fault; else it does not decide
abbrev pub decided : Truth → Value → Option Value
decided (Stands AtTrue) v = Some v
decided (Stands (AtFault f)) v = Some (Failed f)
decided t v = None

-- a branch, from the truth of its condition and the value of what it gives
abbrev pub branch_step : Branch-F Meaning BranchMeaning OperationMeaning → BranchMeaning
branch_step b row = decided (b.when.truth row) (b.gives.value row)

-- an operation, from the value of its operand
abbrev pub operation_step : Operation-F Meaning BranchMeaning OperationMeaning → OperationMeaning
operation_step o x row = computed o.operator x (o.operand.value row)

-- the first of the two that is there
abbrev pub first_of : Option Value → Option Value → Option Value
first_of (Some v) o = Some v
first_of None o = o

-- what the first branch that decides gives
abbrev pub first_decided : List BranchMeaning → List Value → Option Value
first_decided [] row = None
first_decided (b ∷ bs) row = first_of (b row) (first_decided bs row)

-- the operations on a value, from left to right
abbrev pub in_turn : Value → List OperationMeaning → List Value → Value
in_turn x operations row = fold (λ y (o : OperationMeaning). o y row) x operations

-- the lesser of all: AND
abbrev pub least : List Truth → Truth
least = fold lesser (Stands AtTrue)

-- the greater of all: OR
abbrev pub greatest : List Truth → Truth
greatest = fold greater False

-- x in (v, ..): the OR of its equalities
abbrev pub in_list : Value → List Value → Truth
in_list x vs = greatest (map (compared Equal x) vs)

-- the value of each expression that has one, from the values of its operands
abbrev pub value_step : Expr-F Meaning BranchMeaning OperationMeaning → List Value → Value
value_step (Column place) row = slice_index_or row place Null
value_step (Literal v) row = v
value_step (Negative e) row = negative (e.value row)
value_step (Arithmetic first operations) row = in_turn (first.value row) operations row
value_step (Case scale branches other) row =
    at_scale scale (unwrap_or (first_decided branches row) (other.value row))
value_step (Extract part e) row = extracted part (e.value row)
value_step (Substring e from count) row = part_of from count (e.value row)
value_step condition row = Null

-- the truth of each condition
abbrev pub truth_step : Expr-F Meaning BranchMeaning OperationMeaning → List Value → Truth
truth_step (Compare comparison a b) row = compared comparison (a.value row) (b.value row)
truth_step (Between e low high) row = between (e.value row) (low.value row) (high.value row)
truth_step (Like e pattern) row = liked pattern (e.value row)
truth_step (InList e es) row = in_list (e.value row) (map (λ (m : Meaning). m.value row) es)
truth_step (IsNull e) row = null_test (e.value row)
truth_step (Not e) row = negated (e.truth row)
truth_step (All es) row = least (map (λ (m : Meaning). m.truth row) es)
truth_step (Any es) row = greatest (map (λ (m : Meaning). m.truth row) es)
truth_step (IsMarked e) row = truth_of_mark (e.value row)
truth_step e row = Unknown

-- a node, from the meanings of its parts
abbrev pub expr_step : Expr-F Meaning BranchMeaning OperationMeaning → Meaning
expr_step e = record { value = value_step e; truth = truth_step e }

-- a whole expression, node by node from its leaves
unfoldable pub meaning : Expr → Meaning
meaning = fold-Expr Meaning BranchMeaning OperationMeaning expr_step branch_step operation_step

-- what a branch gives, if it decides
unfoldable pub branch_value : Branch → List Value → Option Value
branch_value =
    fold-Branch Meaning BranchMeaning OperationMeaning expr_step branch_step operation_step

-- what an operation makes of the value on its left
unfoldable pub operation_value : Operation → Value → List Value → Value
operation_value =
    fold-Operation Meaning BranchMeaning OperationMeaning expr_step branch_step operation_step

-- the value of an expression over a row
unfoldable pub value : Expr → List Value → Value
value e row = (meaning e).value row

-- the truth of an expression over a row
unfoldable pub truth : Expr → List Value → Truth
truth e row = (meaning e).truth row

-- the value of each of them over a row
unfoldable pub values : List Expr → List Value → List Value
values es row = map (λ e. value e row) es

-- the truth of each of them over a row
unfoldable pub truths : List Expr → List Value → List Truth
truths es row = map (λ e. truth e row) es

-- what the first branch that decides gives
unfoldable pub chosen : List Branch → List Value → Option Value
chosen bs row = first_decided (map branch_value bs) row

-- what the operations make of a value, from left to right
unfoldable pub operated : Value → List Operation → List Value → Value
operated x operations row = in_turn x (map operation_value operations) row
