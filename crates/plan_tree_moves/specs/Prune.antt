-- Trees without columns that nobody reads.
use Rattle.std.specs.Prelude.{◌≡◌, ℕ, ◌<◌, List, ◌++◌, length}
use Rattle.std.specs.List.{All}
use Rattle.base_row_laws.specs.Bags.{SameBag}
use Rattle.base_row_laws.specs.Operators.{project}
use Rattle.base_value.specs.declared.value.Value.{Value}
use Rattle.expr_scalar.specs.declared.expr.Expr.{Expr}
use Rattle.expr_scalar.specs.Rename.{gathered}
use Rattle.expr_conditions.specs.Ranks.{rank_of}
use Rattle.plan_algebra.specs.declared.tree.DepTree.{DepTree}
use Rattle.plan_algebra.specs.declared.tree.Side.{Side}
use Rattle.plan_algebra.specs.Trees.{Database, HasKinds, scans_of, width_of, tree_rows, right_row}

-- new has, as a bag, these columns of the rows of t, under domain rows of n columns
pub record Keeps (n : ℕ) (t : DepTree) (kept : List ℕ) (new : DepTree) : Type 0 where
  pub scans : SameBag (scans_of t) (scans_of new)
  pub width : width_of new ≡ length kept
  pub below : All (λ c. c < width_of t) kept
  pub rows : (db : Database) (d : List Value) → HasKinds db → length d ≡ n
      → SameBag (tree_rows new db d) (project (gathered kept) (tree_rows t db d))

-- a right side reads the same of a left row of these columns alone
pub record SideMoves (n : ℕ) (kept : List ℕ) (side new : Side) : Type 0 where
  pub reads : (d x : List Value) → length d ≡ n
      → right_row new d (gathered kept x) ≡ right_row side d x

-- over a left row of w columns and a right row of k the condition c is new over these columns of
-- the left one
pub record ConditionMoves (n : ℕ) (kept : List ℕ) (w k : ℕ) (c new : Expr) : Type 0 where
  pub says : All (λ c. c < w) kept → (d x y : List Value) → length d ≡ n → length x ≡ w
      → length y ≡ k
      → rank_of new ((d ++ gathered kept x) ++ y) ≡ rank_of c ((d ++ x) ++ y)

-- over a row of `before` columns and these columns alone of a right row the condition c is new
pub record RightMoves (before : ℕ) (own : List ℕ) (c new : Expr) : Type 0 where
  pub says : (x y : List Value) → length x ≡ before
      → rank_of new (x ++ gathered own y) ≡ rank_of c (x ++ y)

-- over a left row of w columns and a right row the condition c is new over these columns of the
-- left one and those of the right one
pub record BothMove (n : ℕ) (kept : List ℕ) (w : ℕ) (own : List ℕ) (c new : Expr) : Type 0 where
  pub says : All (λ c. c < w) kept → (d x y : List Value) → length d ≡ n → length x ≡ w
      → rank_of new ((d ++ gathered kept x) ++ gathered own y) ≡ rank_of c ((d ++ x) ++ y)
