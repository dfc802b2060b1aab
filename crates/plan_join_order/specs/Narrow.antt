-- Inputs without the columns that nobody reads.
use Rattle.std.specs.Prelude.{◌≡◌, ℕ, ◌<◌, List, length}
use Rattle.std.specs.List.{All}
use Rattle.base_row_laws.specs.Bags.{SameBag}
use Rattle.base_row_laws.specs.Rows.{unit_row}
use Rattle.base_row_laws.specs.Operators.{project}
use Rattle.base_row_laws.specs.JoinGroups.{chain}
use Rattle.base_value.specs.declared.value.Value.{Value}
use Rattle.expr_scalar.specs.declared.expr.Expr.{Expr}
use Rattle.expr_scalar.specs.Rename.{gathered}
use Rattle.expr_conditions.specs.Ranks.{all_rank}
use Rattle.plan_algebra.specs.declared.tree.DepTree.{DepTree}
use Rattle.plan_algebra.specs.Trees.{Database, HasKinds}
use Rattle.plan_join_order.specs.Groups.{rows_of, total_of, scans_in, rows_of_inputs}

-- the combinations of the new inputs have these columns of those of the inputs
pub record AreNarrowed (n : ℕ) (inputs news : List DepTree) (kept : List ℕ) : Type 0 where
  pub scans : SameBag (scans_in inputs) (scans_in news)
  pub count : length news ≡ length inputs
  pub below : All (λ c. c < total_of inputs) kept
  pub rows : (db : Database) (d : List Value) → HasKinds db → length d ≡ n
      → chain unit_row (rows_of news db d)
      ≡ project (gathered kept) (chain unit_row (rows_of inputs db d))

-- conditions that say of a row what es say of the row of these columns
pub record AreAsked (places : List ℕ) (es new : List Expr) : Type 0 where
  pub says : (row : List Value) → all_rank new row ≡ all_rank es (gathered places row)

-- other inputs, conditions and select list stand for the same rows, as a bag
pub record Narrows (n : ℕ) (inputs : List DepTree) (conditions output : List Expr)
    (news : List DepTree) (asked list : List Expr) : Type 0 where
  pub scans : SameBag (scans_in inputs) (scans_in news)
  pub count : length news ≡ length inputs
  pub width : length output ≡ length list
  pub rows : (db : Database) (d : List Value) → HasKinds db → length d ≡ n
      → SameBag (rows_of_inputs inputs conditions output db d) (rows_of_inputs news asked list db d)
