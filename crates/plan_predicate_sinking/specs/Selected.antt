-- The rows that conditions keep, and where columns stand.
use Rattle.std.specs.Prelude.{◌≡◌, ℕ, ◌+◌, List, ◌++◌}
use Rattle.base_row_laws.specs.Operators.{select}
use Rattle.base_value.specs.declared.value.Value.{Value}
use Rattle.expr_scalar.specs.declared.expr.Expr.{Expr}
use Rattle.expr_conditions.specs.Ranks.{columns_from, all_say}
use Rattle.plan_algebra.specs.declared.tree.DepTree.{DepTree}
use Rattle.plan_algebra.specs.Trees.{Database, HasKinds, scans_of, width_of, tree_rows}

-- the domain's n columns, and w of the others, from a place on
abbrev pub places_at : (n place w : ℕ) → List ℕ
places_at n place w = columns_from 0 n ++ columns_from (n + place) w

-- new has the rows of t that the conditions keep
pub record IsSelected (t : DepTree) (own : List Expr) (new : DepTree) : Type 0 where
  pub scans : scans_of t ≡ scans_of new
  pub width : width_of t ≡ width_of new
  pub rows : (db : Database) (d : List Value) → HasKinds db
      → tree_rows new db d ≡ select (all_say own d) (tree_rows t db d)
