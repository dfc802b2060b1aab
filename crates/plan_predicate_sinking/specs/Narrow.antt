-- Some columns of a tree, and where they stand.
use Rattle.std.specs.Prelude.{◌≡◌, ℕ, ◌+◌, List, ◌++◌, map, length, Some, slice_get}
use Rattle.std.specs.List.{All}
use Rattle.base_row_laws.specs.Operators.{project}
use Rattle.base_value.specs.declared.value.Value.{Value}
use Rattle.expr_scalar.specs.declared.expr.Expr.{Expr}
use Rattle.expr_scalar.specs.Rename.{gathered}
use Rattle.expr_scalar.specs.Used.{used}
use Rattle.expr_conditions.specs.Ranks.{columns_from}
use Rattle.plan_algebra.specs.declared.tree.DepTree.{DepTree}
use Rattle.plan_algebra.specs.Trees.{Database, HasKinds, scans_of, width_of, tree_rows}

-- new has these columns of the rows of t, under domain rows of n columns
pub record IsNarrowed (n : ℕ) (t : DepTree) (own : List ℕ) (new : DepTree) : Type 0 where
  pub scans : scans_of t ≡ scans_of new
  pub width : width_of new ≡ length own
  pub rows : (db : Database) (d : List Value) → HasKinds db → length d ≡ n
      → tree_rows new db d ≡ project (gathered own) (tree_rows t db d)

-- the columns of a domain, and after them those that are kept
abbrev pub whole_columns : ℕ → List ℕ → List ℕ
whole_columns n kept = columns_from 0 n ++ map (λ c. n + c) kept

-- a column stands at its place
pub record IsFoundAt (places whole : List ℕ) (c : ℕ) : Type 0 where
  pub place : ℕ
  pub there : slice_get places c ≡ Some place
  pub back : slice_get whole place ≡ Some c

-- each column that an expression reads stands at its place
abbrev pub IsFound : List ℕ → List ℕ → Expr → Type 0
IsFound places whole e = All (IsFoundAt places whole) (used e)
