-- Selections moved down.
use Rattle.std.specs.Prelude.{◌≡◌, ℕ, List, ◌++◌, length, min}
use Rattle.std.specs.List.{All}
use Rattle.base_value.specs.declared.value.Value.{Value}
use Rattle.expr_scalar.specs.declared.expr.Expr.{Expr}
use Rattle.expr_scalar.specs.declared.expr.Expr.TheVariants as e
use Rattle.expr_conditions.specs.Ranks.{rank_of, all_rank, ReadsBelow}
use Rattle.plan_algebra.specs.declared.tree.DepTree.{DepTree}
use Rattle.plan_algebra.specs.declared.tree.DepTree.TheVariants as t
use Rattle.plan_algebra.specs.declared.tree.Side.{Side}
use Rattle.plan_algebra.specs.Trees.{right_row}
use Rattle.plan_predicate_sinking.specs.Arranged.{SameRows}

-- the conditions in two parts, of which the first reads columns below a limit only
pub record IsSplit (limit : ℕ) (es below above : List Expr) : Type 0 where
  pub says : (row : List Value) → min (all_rank below row) (all_rank above row) ≡ all_rank es row
  pub within : All (ReadsBelow limit) below

-- a condition was put into one of the parts
pub record PutSplit (limit : ℕ) (x : Expr) (below now above then : List Expr) : Type 0 where
  pub says : (row : List Value)
      → min (all_rank now row) (all_rank then row)
      ≡ min (min (all_rank below row) (all_rank above row)) (rank_of x row)
  pub within : All (ReadsBelow limit) below → All (ReadsBelow limit) now

-- new has the rows of a that the conditions keep
abbrev pub Sinks : ℕ → DepTree → List Expr → DepTree → Type 0
Sinks n a conditions new = SameRows n (t.Select a (e.All conditions)) new

-- The condition of an outer join in two parts, over rows of n, a and x columns: the first reads the
-- domain row of the right side and the right columns alone.
pub record IsOnSplit (n a x : ℕ) (side : Side) (c : Expr) (own both : List Expr) : Type 0 where
  pub says : (d u w : List Value) → length d ≡ n → length u ≡ a → length w ≡ x
      → min (all_rank own (right_row side d u ++ w)) (all_rank both (d ++ (u ++ w)))
      ≡ rank_of c (d ++ (u ++ w))
  pub alike : (d u v w : List Value)
      → all_rank own (right_row side d u ++ w) ≡ all_rank own (right_row side d v ++ w)
