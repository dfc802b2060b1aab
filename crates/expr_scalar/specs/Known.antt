-- Well-typed expressions over rows without nulls: a null comes from a null, and Unknown from a
-- null, alone.
use Rattle.std.specs.Prelude.{◌≢◌, Bool, true, false, not, ◌||◌, List, IsTrue}
use Rattle.std.specs.List.{list_all, list_any}
use Rattle.base_value.specs.declared.truth.Truth.TheVariants.{Unknown}
use Rattle.base_value.specs.declared.value.Value.{Value}
use Rattle.base_value.specs.declared.value.Value.TheVariants.{Null}
use Rattle.expr_scalar.specs.declared.expr.Branch.{Branch}
use Rattle.expr_scalar.specs.declared.expr.Expr.{Expr, Expr-F}
use Rattle.expr_scalar.specs.declared.expr.Expr.TheFolds.{fold-Expr, fold-Branch, fold-Operation}
use Rattle.expr_scalar.specs.declared.expr.Expr.TheOpen.{Branch-F, Operation-F, Column, Literal}
use Rattle.expr_scalar.specs.declared.expr.Expr.TheOpen.{Negative, Arithmetic, Case, Extract}
use Rattle.expr_scalar.specs.declared.expr.Expr.TheOpen.{Substring, Compare, Between, Like, InList}
use Rattle.expr_scalar.specs.declared.expr.Expr.TheOpen.{IsNull, Not, All, Any, IsMarked}
use Rattle.expr_scalar.specs.declared.expr.Operation.{Operation}
use Rattle.expr_scalar.specs.declared.kind.Kind.{Kind}
use Rattle.expr_scalar.specs.Meaning.{value, truth}
use Rattle.expr_scalar.specs.Typing.{gives, is_condition, row_is_of}

-- a value other than null
abbrev pub is_known : Value → Bool
is_known Null = false
is_known v = true

-- one of them has a null
abbrev pub some_null : List Bool → Bool
some_null = list_any (λ b. b)

-- whether null stands in a node, from whether it stands in its parts
abbrev pub null_step : Expr-F Bool Bool Bool → Bool
null_step (Column place) = false
null_step (Literal v) = not (is_known v)
null_step (Negative e) = e
null_step (Arithmetic first operations) = first || some_null operations
null_step (Case scale branches other) = some_null branches || other
null_step (Extract part e) = e
null_step (Substring e from count) = e
null_step (Compare comparison a b) = a || b
null_step (Between e low high) = e || (low || high)
null_step (Like e pattern) = e
null_step (InList e es) = e || some_null es
null_step (IsNull e) = e
null_step (Not e) = e
null_step (All es) = some_null es
null_step (Any es) = some_null es
null_step (IsMarked e) = e

-- whether null stands in the condition of a branch or in what it gives
abbrev pub branch_null_step : Branch-F Bool Bool Bool → Bool
branch_null_step b = b.when || b.gives

-- whether null stands in an operand
abbrev pub operation_null_step : Operation-F Bool Bool Bool → Bool
operation_null_step o = o.operand

-- whether null is written in an expression, as a CASE without ELSE has it
unfoldable pub has_null : Expr → Bool
has_null = fold-Expr Bool Bool Bool null_step branch_null_step operation_null_step

-- the same of a branch
unfoldable pub branch_has_null : Branch → Bool
branch_has_null = fold-Branch Bool Bool Bool null_step branch_null_step operation_null_step

-- the same of an operation
unfoldable pub operation_has_null : Operation → Bool
operation_has_null = fold-Operation Bool Bool Bool null_step branch_null_step operation_null_step

-- A condition gives no kind: it is no value.
abbrev pub ConditionsGiveNoKind : Type 0
ConditionsGiveNoKind = (e : Expr) (ks : List Kind) (k : Kind) → IsTrue (is_condition e ks)
    → IsTrue (not (gives e ks k))

-- Over a row of the kinds that has no null, an expression without a written null that gives a kind
-- is not null, and a condition without a written null is not Unknown.
abbrev pub NullsComeFromNulls : Type 0
NullsComeFromNulls = (e : Expr) (ks : List Kind) (row : List Value) → IsTrue (row_is_of ks row)
    → IsTrue (list_all is_known row) → IsTrue (not (has_null e))
    → ((k : Kind) → IsTrue (gives e ks k) → value e row ≢ Null)
    × (IsTrue (is_condition e ks) → truth e row ≢ Unknown)
