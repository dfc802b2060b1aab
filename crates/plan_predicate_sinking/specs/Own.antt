-- Conditions on the right input of a join alone.
use Rattle.std.specs.Prelude.{◌≡◌, ℕ, ◌<◌, ◌≤◌, ◌⊎◌, Bool, true, false, List, [], ◌++◌, length}
use Rattle.std.specs.Prelude.{min}
use Rattle.std.specs.List.{All}
use Rattle.base_value.specs.declared.value.Value.{Value}
use Rattle.expr_scalar.specs.declared.expr.Expr.{Expr}
use Rattle.expr_scalar.specs.Used.{used}
use Rattle.expr_conditions.specs.Ranks.{columns_from, rank_of, all_rank}
use Rattle.plan_algebra.specs.declared.tree.DepTree.{DepTree}
use Rattle.plan_algebra.specs.declared.tree.Side.{Side}
use Rattle.plan_algebra.specs.declared.tree.Side.TheVariants.{Closed, Shared}
use Rattle.plan_algebra.specs.Trees.{Database, tree_rows}

-- the side of a right input: closed, or over the left one's domain
abbrev pub own_side : Bool → Side
own_side true = Closed
own_side false = Shared

-- the domain row of a right input's tree
abbrev pub own_row : Bool → List Value → List Value
own_row true d = []
own_row false d = d

-- the rest of the left input's domain row
abbrev pub other_row : Bool → List Value → List Value
other_row true d = d
other_row false d = []

-- how many columns the right input's domain row has, where the left one's has n
abbrev pub own_width : Bool → ℕ → ℕ
own_width true n = 0
own_width false n = n

-- under the domain row of that side the tree has the rows that it has under one of n columns
pub record SideServes (n : ℕ) (t : DepTree) (closed : Bool) : Type 0 where
  pub rows : (db : Database) (d : List Value) → length d ≡ n
      → tree_rows t db (own_row closed d) ≡ tree_rows t db d

-- an expression reads, after the m first columns, only those from low on and below high
abbrev pub ReadsOwn : (m low high : ℕ) → Expr → Type 0
ReadsOwn m low high e = All (λ c. (c < m) ⊎ ((low ≤ c) × (c < high))) (used e)

-- where the columns after the m first and k others are, in a row without the k others
abbrev pub own_places : (m k x : ℕ) → List ℕ
own_places m k x = columns_from 0 m ++ (columns_from 0 k ++ columns_from m x)

-- over rows of n, a and x columns: es in two parts, of which the first reads the domain row of the
-- side and the x columns alone
pub record IsApart (closed : Bool) (n a x : ℕ) (es own both : List Expr) : Type 0 where
  pub says : (d u w : List Value) → length d ≡ n → length u ≡ a → length w ≡ x
      → min (all_rank own (own_row closed d ++ w)) (all_rank both (d ++ (u ++ w)))
      ≡ all_rank es (d ++ (u ++ w))

-- a condition was put into one of the parts
pub record PutApart (closed : Bool) (n a x : ℕ) (e : Expr) (own now both then : List Expr) : Type 0
  where
    pub says : (d u w : List Value) → length d ≡ n → length u ≡ a → length w ≡ x
        → min (all_rank now (own_row closed d ++ w)) (all_rank then (d ++ (u ++ w)))
        ≡ min (min (all_rank own (own_row closed d ++ w)) (all_rank both (d ++ (u ++ w))))
        (rank_of e (d ++ (u ++ w)))
