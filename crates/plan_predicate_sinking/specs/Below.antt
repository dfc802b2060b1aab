-- Conditions moved below select lists and groups.
use Rattle.std.specs.Prelude.{◌≡◌, ℕ, ◌+◌, ◌<◌, List, [], ◌∷◌, ◌++◌, length, slice_index_or}
use Rattle.std.specs.List.{All}
use Rattle.base_value.specs.declared.value.Value.{Value}
use Rattle.base_value.specs.declared.value.Value.TheVariants.{Null}
use Rattle.expr_scalar.specs.declared.expr.Expr.{Expr}
use Rattle.expr_scalar.specs.declared.expr.Expr.TheVariants as e
use Rattle.expr_scalar.specs.Rename.{gathered}
use Rattle.expr_scalar.specs.Used.{used}
use Rattle.expr_conditions.specs.Ranks.{all_rank}
use Rattle.plan_algebra.specs.declared.aggregate.Aggregate.{Aggregate}
use Rattle.plan_algebra.specs.declared.tree.DepTree.{DepTree}
use Rattle.plan_algebra.specs.declared.tree.DepTree.TheVariants as t
use Rattle.plan_algebra.specs.Trees.{listed}
use Rattle.plan_predicate_sinking.specs.Arranged.{SameRows}
use Rattle.plan_predicate_sinking.specs.Sink.{IsSplit}

-- in a row that begins with n columns of a domain and a select list's, this column has the value
-- that stands at this place of the row below
pub record IsPlaceBelow (n : ℕ) (es : List Expr) (column place : ℕ) : Type 0 where
  pub within : column < n + length es
  pub reads : (d r v : List Value) → length d ≡ n
      → slice_index_or (d ++ r) place Null
      ≡ slice_index_or (d ++ (listed es d r ++ v)) column Null

-- so it is where the columns of that row are read at these places
pub record IsReadBelow (n : ℕ) (es : List Expr) (places : List ℕ) (column : ℕ) : Type 0 where
  pub within : column < n + length es
  pub reads : (d r v : List Value) → length d ≡ n
      → slice_index_or (gathered places (d ++ r)) column Null
      ≡ slice_index_or (d ++ (listed es d r ++ v)) column Null

-- so it is for all columns that a condition reads
abbrev pub IsMovable : ℕ → List Expr → List ℕ → Expr → Type 0
IsMovable n es places c = All (IsReadBelow n es places) (used c)

-- Conditions on a row that begins with a select list's columns, in two parts: those above stay, and
-- those below say of the row below what the others, which are moved, say of the row.
pub record AreLowered (n : ℕ) (es conditions below above : List Expr) : Type 0 where
  pub moved : List Expr
  pub split : IsSplit (n + length es) conditions moved above
  pub reads : (d r v : List Value) → length d ≡ n
      → all_rank below (d ++ r) ≡ all_rank moved (d ++ (listed es d r ++ v))

-- a condition more is in one of the parts
pub record PutLowered (n : ℕ) (es : List Expr) (c : Expr) (below now above then : List Expr)
    : Type 0 where
  pub more : (conditions : List Expr) → AreLowered n es conditions below above
      → AreLowered n es (conditions ++ c ∷ []) now then

-- conditions on groups by these keys: those below on the rows, and those above on the groups
pub record SinkBelowGroups (n : ℕ) (by : List ℕ) (conditions below above : List Expr) : Type 0 where
  pub same : (a : DepTree) (aggregates : List Aggregate)
      → SameRows n (t.Select (t.Group a by aggregates) (e.All conditions))
      (t.Select (t.Group (t.Select a (e.All below)) by aggregates) (e.All above))
