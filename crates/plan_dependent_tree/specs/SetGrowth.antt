-- What it is for a tree to be that of a set operation of two trees.
use Rattle.std.specs.Prelude.{◌≡◌, ℕ, List, length}
use Rattle.base_set_rows.specs.declared.kind.SetOperation.{SetOperation}
use Rattle.base_value.specs.declared.value.Value.{Value}
use Rattle.expr_conditions.specs.Ranks.{columns_from}
use Rattle.expr_scalar.specs.declared.expr.Expr.{Expr}
use Rattle.expr_scalar.specs.Meaning.{values}
use Rattle.expr_scalar.specs.Rename.{gathered}
use Rattle.sql_bound_query.specs.declared.query.SetColumn.{SetColumn}
use Rattle.sql_bound_query.specs.Meaning.{left_columns, right_columns}
use Rattle.plan_algebra.specs.declared.tree.DepTree.{DepTree}
use Rattle.plan_algebra.specs.declared.tree.DepTree.TheVariants as t

-- Over every flat row, a select list gives what some columns are of the row of these places.
pub record ReadsOf (places : List ℕ) (read : List Value → List Value) (exprs : List Expr) : Type 0
  where
    pub reads : (row : List Value) → values exprs row ≡ read (gathered places row)

-- A set operation of the trees left and right, of a and b columns behind a domain row of `start`:
-- of the rows that its columns are of theirs.
pub record IsSetTree (left : DepTree) (a : ℕ) (right : DepTree) (b : ℕ) (columns : List SetColumn)
    (operation : SetOperation) (start : ℕ) (tree : DepTree) (width : ℕ) : Type 0 where
  pub lefts : List Expr
  pub rights : List Expr
  pub left_reads : ReadsOf (columns_from start a) (left_columns columns) lefts
  pub right_reads : ReadsOf (columns_from start b) (right_columns columns) rights
  pub is : tree ≡ t.Set (t.Project left lefts) (t.Project right rights) operation
  pub count : width ≡ length columns
