-- Kept plans: grouped queries of one table, and what they give.
use Rattle.std.specs.Prelude.{◌≡◌, ℕ, List, [], ◌∷◌, map, pos}
use Rattle.base_row_laws.specs.Ranked.{Ranked, ranked, true_rank}
use Rattle.base_row_laws.specs.Rows.{columns, scanned}
use Rattle.base_row_laws.specs.Operators.{select, project, group_by, total}
use Rattle.base_row_laws.specs.Aggregates.{aggregated, count_rows}
use Rattle.base_value.specs.declared.value.Value.{Value}
use Rattle.base_value.specs.declared.value.Value.TheVariants.{Null, Number}
use Rattle.base_value.specs.Truth.{truth_rank}
use Rattle.base_value.specs.Value.{same_value}
use Rattle.base_schema.specs.declared.table.TableName.TheVariants.{Region}
use Rattle.expr_scalar.specs.declared.expr.Expr.TheVariants.{All}
use Rattle.expr_scalar.specs.Meaning.{value, truth}
use Rattle.expr_aggregates.specs.declared.function.AggregateFunction.TheVariants.{Count, Sum}
use Rattle.expr_aggregates.specs.Values.{reading, aggregate_of}
use Rattle.plan_algebra.specs.declared.aggregate.Aggregate.{Aggregate}
use Rattle.plan_algebra.specs.declared.aggregate.Aggregate.TheVariants.{CountRows, Of}
use Rattle.plan_algebra.specs.declared.kept_plan.KeptAggregate.{KeptAggregate}
use Rattle.plan_algebra.specs.declared.kept_plan.KeptAggregate.TheVariants as kept
use Rattle.plan_algebra.specs.declared.kept_plan.KeptPlan.{KeptPlan}

-- an aggregate: its argument, read from a row, and what it makes of the list of the argument's
-- values
abbrev pub item_of : KeptAggregate → (List Value → Value) × (List Value → Value)
item_of kept.CountRows = (λ row. Null, count_rows (reading 0))
item_of (kept.Count e) = (value e, aggregate_of Count 0)
item_of (kept.Sum scale e) = (value e, aggregate_of Sum scale)

-- an aggregate, as one of a plan's group
abbrev pub plain_aggregate : KeptAggregate → Aggregate
plain_aggregate kept.CountRows = CountRows
plain_aggregate (kept.Count e) = Of Count 0 e
plain_aggregate (kept.Sum scale e) = Of Sum scale e

-- what the condition says of a row
abbrev pub holds_for : KeptPlan → List Value → ℕ
holds_for p row = truth_rank (truth p.condition row)

-- WHERE over a table's rows
unfoldable pub selected : KeptPlan → List (List Value) → List (Ranked Value)
selected p rows = select (holds_for p) (scanned rows)

-- the key of a row's group
abbrev pub key_of : KeptPlan → List Value → List Value
key_of p row = columns Null p.by row

-- the groups by these columns, or where there are none the one group of all rows
abbrev pub kept_groups : List ℕ → (List (Ranked Value) → List Value) → List (Ranked Value)
    → List (Ranked Value)
kept_groups [] aggregates rows = total aggregates rows
kept_groups (k ∷ ks) aggregates rows =
    group_by same_value (columns Null (k ∷ ks)) aggregates rows

-- the rows of the query over a table's rows
unfoldable pub query_rows : KeptPlan → List (List Value) → List (Ranked Value)
query_rows p rows = project (columns Null p.list)
    (kept_groups p.by (aggregated (map item_of p.aggregates)) (selected p rows))

-- select count(*) from region
abbrev pub regions_counted : KeptPlan
regions_counted = record {
  table = Region;
  condition = All [];
  by = [];
  aggregates = kept.CountRows ∷ [];
  list = 0 ∷ [];
}

-- select r_regionkey, count(*) from region group by r_regionkey
abbrev pub regions_by_key : KeptPlan
regions_by_key = record regions_counted { by = 0 ∷ []; list = 0 ∷ 1 ∷ [] }

-- a row of one whole number
abbrev pub one : ℕ → List Value
one n = Number 0 (pos n) ∷ []

-- Without GROUP BY there is one row of no rows, too; with it there is a row for each key, and none
-- of no rows.
abbrev pub KeptCases : Type 0
KeptCases = (query_rows regions_counted [] ≡ ranked (one 0) true_rank ∷ [])
    × (query_rows regions_counted (one 7 ∷ one 8 ∷ []) ≡ ranked (one 2) true_rank ∷ [])
    × (query_rows regions_by_key [] ≡ [])
    × (query_rows regions_by_key (one 7 ∷ one 8 ∷ one 7 ∷ [])
    ≡ ranked (Number 0 (pos 7) ∷ one 2) true_rank ∷ ranked (Number 0 (pos 8) ∷ one 1) true_rank ∷ [])
