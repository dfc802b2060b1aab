-- Expressions over other columns.
use Rattle.std.specs.Prelude.{◌≡◌, ℕ, List, map, Option, Some, None, IsTrue, slice_get}
use Rattle.std.specs.Prelude.{slice_index_or}
use Rattle.base_value.specs.declared.value.Value.{Value}
use Rattle.base_value.specs.declared.value.Value.TheVariants.{Null}
use Rattle.expr_scalar.specs.declared.expr.Branch.{Branch, roll-Branch}
use Rattle.expr_scalar.specs.declared.expr.Expr.{Expr, Expr-F, roll-Expr}
use Rattle.expr_scalar.specs.declared.expr.Expr.TheFolds.{fold-Expr, fold-Branch, fold-Operation}
use Rattle.expr_scalar.specs.declared.expr.Expr.TheOpen.{Column}
use Rattle.expr_scalar.specs.declared.expr.Expr.TheVariants as e
use Rattle.expr_scalar.specs.declared.expr.Operation.{Operation, roll-Operation}
use Rattle.expr_scalar.specs.declared.kind.Kind.{Kind}
use Rattle.expr_scalar.specs.Meaning.{value, truth}
use Rattle.expr_scalar.specs.Typing.{gives, is_condition}

-- a column of that place; null where there is none
abbrev pub column_or_null : Option ℕ → Expr
column_or_null (Some place) = e.Column place
column_or_null None = e.Literal Null

-- a node with other columns: only a column changes
abbrev pub renamed_step : List ℕ → Expr-F Expr Branch Operation → Expr
renamed_step columns (Column i) = column_or_null (slice_get columns i)
renamed_step columns node = roll-Expr node

-- the expression with the column columns[i] in the place of each column i, and null where columns
-- has no such place
unfoldable pub renamed : List ℕ → Expr → Expr
renamed columns = fold-Expr Expr Branch Operation (renamed_step columns) roll-Branch roll-Operation

-- the same of a branch
unfoldable pub renamed_branch : List ℕ → Branch → Branch
renamed_branch columns =
    fold-Branch Expr Branch Operation (renamed_step columns) roll-Branch roll-Operation

-- the same of an operation
unfoldable pub renamed_operation : List ℕ → Operation → Operation
renamed_operation columns =
    fold-Operation Expr Branch Operation (renamed_step columns) roll-Branch roll-Operation

-- the row of these columns of a row; null where it has none
unfoldable pub gathered : List ℕ → List Value → List Value
gathered columns row = map (λ i. slice_index_or row i Null) columns

-- over every row, new means what old means over the row of these columns
pub record IsRenamed (columns : List ℕ) (old new : Expr) : Type 0 where
  pub value : (row : List Value) → value new row ≡ value old (gathered columns row)
  pub truth : (row : List Value) → truth new row ≡ truth old (gathered columns row)

-- these columns are there, and of these kinds
abbrev pub ColumnsAre : List ℕ → List Kind → List Kind → Type 0
ColumnsAre columns kinds these = map (slice_get kinds) columns ≡ map Some these

-- over rows of some kinds, new is well typed where old is over rows of the kinds of these columns,
-- and gives that kind
pub record KeepsKinds (columns : List ℕ) (old new : Expr) : Type 0 where
  pub gives : (kinds these : List Kind) (k : Kind) → ColumnsAre columns kinds these
      → IsTrue (gives old these k) → IsTrue (gives new kinds k)
  pub is_condition : (kinds these : List Kind) → ColumnsAre columns kinds these
      → IsTrue (is_condition old these) → IsTrue (is_condition new kinds)
