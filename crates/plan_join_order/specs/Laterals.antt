-- Lateral joins with aggregates that stand without GROUP BY.
use Rattle.std.specs.Prelude.{◌≡◌, ℕ, ◌+◌, List, [], ◌++◌, length, replicate}
use Rattle.base_row_laws.specs.Bags.{SameBag}
use Rattle.base_row_laws.specs.Operators.{select}
use Rattle.base_value.specs.declared.value.Value.{Value}
use Rattle.base_value.specs.declared.value.Value.TheVariants.{Null}
use Rattle.expr_scalar.specs.declared.expr.Expr.{Expr}
use Rattle.expr_scalar.specs.Rename.{gathered}
use Rattle.expr_conditions.specs.Ranks.{says}
use Rattle.plan_algebra.specs.declared.aggregate.Aggregate.{Aggregate}
use Rattle.plan_algebra.specs.declared.tree.DepTree.{DepTree}
use Rattle.plan_algebra.specs.Aggregates.{aggregates_of}
use Rattle.plan_algebra.specs.Trees.{Database, HasKinds, scans_of, width_of, tree_rows, listed}
use Rattle.expr_scalar.specs.Meaning.{values}

-- the aggregates of no rows are null
pub record AreNull (aggregates : List Aggregate) : Type 0 where
  pub values : aggregates_of aggregates [] ≡ replicate (length aggregates) Null

-- a list of the w columns after a domain's n, and then of what es are over these columns of the row
pub record IsListAbove (n w : ℕ) (places : List ℕ) (es list : List Expr) : Type 0 where
  pub count : length list ≡ w + length es
  pub reads : (d l t : List Value) → length d ≡ n → length l ≡ w
      → listed list d (l ++ t) ≡ l ++ values es (gathered places (d ++ (l ++ t)))

-- new has the rows of t that a condition keeps, as a bag
pub record IsKept (c : Expr) (t new : DepTree) : Type 0 where
  pub scans : scans_of new ≡ scans_of t
  pub width : width_of new ≡ width_of t
  pub rows : (db : Database) (d : List Value) → HasKinds db
      → SameBag (tree_rows new db d) (select (says c d) (tree_rows t db d))
