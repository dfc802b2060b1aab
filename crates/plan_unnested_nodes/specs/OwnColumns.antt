-- Columns of rows that stand for a domain's: a condition asks that they are equal to them.
use Rattle.std.specs.Prelude.{◌≡◌, ℕ, ◌+◌, ◌<◌, ◌≤◌, max, List, ◌++◌, length, IsTrue}
use Rattle.std.specs.Prelude.{Option, Some, None, slice_index_or}
use Rattle.std.specs.List.{range_with_len}
use Rattle.base_row_laws.specs.Ranked.{Ranked}
use Rattle.base_row_laws.specs.Bags.{Each}
use Rattle.base_value.specs.declared.value.Value.{Value}
use Rattle.base_value.specs.declared.value.Value.TheVariants.{Null}
use Rattle.base_value.specs.Truth.{truth_rank}
use Rattle.expr_operators.specs.declared.operator.Comparison.TheVariants.{Equal}
use Rattle.expr_operators.specs.Operators.{compared}
use Rattle.expr_scalar.specs.declared.expr.Expr.{Expr}
use Rattle.expr_scalar.specs.declared.kind.Kind.{Kind}
use Rattle.expr_scalar.specs.declared.kind.Kind.TheVariants as kind
use Rattle.expr_conditions.specs.Ranks.{rank_of, all_rank}
use Rattle.base_schema.specs.declared.column.ColumnKind.{ColumnKind}
use Rattle.base_schema.specs.declared.column.ColumnKind.TheVariants.{Key, Whole, Decimal, Date}
use Rattle.base_schema.specs.declared.column.ColumnKind.TheVariants.{Text}
use Rattle.plan_unnested_nodes.specs.declared.domain.Origin.{Origin}
use Rattle.plan_unnested_nodes.specs.declared.origins.Known.{Known}
use Rattle.plan_unnested_nodes.specs.Domains.{is_unchanged, KeepsNotes}

-- the kind of a stored column's values
abbrev pub stored_as : ColumnKind → Kind
stored_as Key = kind.Number 0
stored_as Whole = kind.Number 0
stored_as Decimal = kind.Number 2
stored_as Date = kind.Date
stored_as (Text most) = kind.Text

-- the kind of a column's values, where the column is known
abbrev pub kind_known : Option Known → Option Kind
kind_known None = None
kind_known (Some known) = Some known.kind

-- in the rows the column k holds only nulls and values of that kind and scale
abbrev pub KeepsKind : Kind → ℕ → List (Ranked Value) → Type 0
KeepsKind k column rows =
    Each (λ r. IsTrue (is_unchanged k (slice_index_or r.values column Null))) rows

-- the notes say that the column holds only nulls and values of that kind and scale
pub record AreNoted (notes : List Origin) (column : ℕ) (k : Kind) : Type 0 where
  pub keeps : (rows : List (Ranked Value)) → KeepsNotes notes rows → KeepsKind k column rows

-- what u = v says or v = u, as a rank
abbrev pub either_equal : Value → Value → ℕ
either_equal u v = max (truth_rank (compared Equal u v)) (truth_rank (compared Equal v u))

-- what the equality of the columns i and j of a row says, as a rank
abbrev pub columns_equal : ℕ → ℕ → List Value → ℕ
columns_equal i j row = either_equal (slice_index_or row i Null) (slice_index_or row j Null)

-- The column b of rows whose columns have these kinds, which is of that kind, is asked to be equal
-- to the column k of a domain of n columns: a condition over a row of both is at most what their
-- equality says.
pub record IsAskedOf (ks : List (Option Known)) (n k : ℕ) (kind : Kind) (c : Expr) (b : ℕ)
    : Type 0 where
  pub stored : kind_known (slice_index_or ks b None) ≡ Some kind
  pub asks : (row : List Value) → rank_of c row ≤ columns_equal k (n + b) row

-- the same of an AND of conditions
pub record IsAskedOfAll (ks : List (Option Known)) (n k : ℕ) (kind : Kind) (es : List Expr) (b : ℕ)
    : Type 0 where
  pub stored : kind_known (slice_index_or ks b None) ≡ Some kind
  pub asks : (row : List Value) → all_rank es row ≤ columns_equal k (n + b) row

-- The column b of rows stands for the column k of a domain of n columns: a condition over a row of
-- both asks that they are equal, and both hold only nulls and values of one kind and scale.
pub record StandsFor (ks : List (Option Known)) (notes : List Origin) (n : ℕ) (c : Expr)
    (k b : ℕ) : Type 0 where
  pub kind : Kind
  pub noted : AreNoted notes k kind
  pub asked : IsAskedOf ks n k kind c b

-- such columns for each of the domain's columns
pub record StandForAll (ks : List (Option Known)) (notes : List Origin) (n : ℕ) (c : Expr)
    (own : List ℕ) : Type 0 where
  pub long : length own ≡ n
  pub each : (k : ℕ) → k < length own → StandsFor ks notes n c k (slice_index_or own k 0)

-- these columns of rows of w columns, and after them all of their columns
abbrev pub with_own : List ℕ → ℕ → List ℕ
with_own own w = own ++ range_with_len 0 w
