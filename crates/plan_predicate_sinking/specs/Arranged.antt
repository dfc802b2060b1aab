-- What it is for one tree to stand in the place of another.
use Rattle.std.specs.Prelude.{◌≡◌, ℕ, List, length}
use Rattle.base_row_laws.specs.Bags.{SameBag}
use Rattle.base_value.specs.declared.value.Value.{Value}
use Rattle.plan_algebra.specs.declared.tree.DepTree.{DepTree}
use Rattle.plan_algebra.specs.Trees.{Database, HasKinds, scans_of, width_of, tree_rows}

-- Two trees scan the same tables, each as often. Their rows are as wide, and under each domain row
-- of n columns the same, as a bag, at the same standings.
pub record SameRows (n : ℕ) (t u : DepTree) : Type 0 where
  pub scans : SameBag (scans_of t) (scans_of u)
  pub width : width_of t ≡ width_of u
  pub rows : (db : Database) (d : List Value) → HasKinds db → length d ≡ n
      → SameBag (tree_rows t db d) (tree_rows u db d)
