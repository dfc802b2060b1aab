-- Which queries are kept, and what the parts of a plan are of those of its query.
use Rattle.std.specs.Prelude.{◌≡◌, ℕ, ◌==◌, List, [], ◌∷◌, map, Bool, true, false, ◌&&◌, cond}
use Rattle.std.specs.Prelude.{Option, Some, None, is_some, option_and_then, slice_get}
use Rattle.std.specs.Prelude.{slice_index_or, length, not, Result, Ok, Err}
use Rattle.std.specs.List.{list_all}
use Rattle.base_row_laws.specs.Ranked.{true_rank}
use Rattle.base_row_laws.specs.Rows.{columns}
use Rattle.base_value.specs.declared.value.Value.{Value}
use Rattle.base_value.specs.declared.value.Value.TheVariants.{Null}
use Rattle.base_value.specs.Truth.{truth_rank}
use Rattle.expr_aggregates.specs.declared.function.AggregateFunction.TheVariants.{Count, Sum}
use Rattle.expr_scalar.specs.declared.expr.Branch.{Branch}
use Rattle.expr_scalar.specs.declared.expr.Expr.{Expr, Expr-F, out-Expr}
use Rattle.expr_scalar.specs.declared.expr.Expr.TheOpen.{Column, All}
use Rattle.expr_scalar.specs.declared.expr.Operation.{Operation}
use Rattle.expr_scalar.specs.Meaning.{value, truth}
use Rattle.base_schema.specs.State.{State, table_rows}
use Rattle.sql_bound_query.specs.declared.query.BoundAggregate.{BoundAggregate, out-BoundAggregate}
use Rattle.sql_bound_query.specs.declared.query.BoundAggregate.TheOpen as node
use Rattle.sql_bound_query.specs.declared.query.BoundBlock.{BoundBlock, out-BoundBlock}
use Rattle.sql_bound_query.specs.declared.query.BoundExpr.{BoundExpr, out-BoundExpr}
use Rattle.sql_bound_query.specs.declared.query.BoundQuery.{BoundQuery}
use Rattle.sql_bound_query.specs.declared.query.BoundSource.{BoundSource, out-BoundSource}
use Rattle.sql_bound_query.specs.declared.query.Input.{Input, out-Input}
use Rattle.sql_bound_query.specs.Meaning.{rows, expr_meaning, aggregate_meaning}
use Rattle.plan_kept_queries.specs.declared.form.KeptPlanError.{KeptPlanError}
use Rattle.plan_kept_queries.specs.declared.form.KeptPlanError.TheVariants.{NotKept, OutOfMemory}
use Rattle.plan_algebra.specs.declared.kept_plan.KeptAggregate.{KeptAggregate}
use Rattle.plan_algebra.specs.declared.kept_plan.KeptPlan.{KeptPlan}
use Rattle.plan_algebra.specs.KeptPlans.{item_of, query_rows}

-- the place of an input that is a column of the row itself
abbrev pub place_at : node.Input-F BoundAggregate BoundBlock BoundSource Input BoundExpr → Option ℕ
place_at (node.Column level place) = cond (level == 0) (Some place) None
place_at other = None

unfoldable pub own_place : Input → Option ℕ
own_place i = place_at (out-Input i)

-- the expression reads the row itself alone
unfoldable pub is_over_row : BoundExpr → Bool
is_over_row e = list_all (λ i. is_some (own_place i)) (out-BoundExpr e).inputs

-- the place of the input that an expression is
abbrev pub column_at : Expr-F Expr Branch Operation → Option ℕ
column_at (Column k) = Some k
column_at other = None

-- the place of the column of the row itself that an expression is
unfoldable pub shown_place : BoundExpr → Option ℕ
shown_place e =
    option_and_then (λ k. option_and_then own_place (slice_get (out-BoundExpr e).inputs k))
    (column_at (out-Expr (out-BoundExpr e).expr))

-- the condition of no conditions
abbrev pub is_nothing : Expr-F Expr Branch Operation → Bool
is_nothing (All es) = length es == 0
is_nothing other = false

unfoldable pub holds_always : BoundExpr → Bool
holds_always e = is_nothing (out-Expr (out-BoundExpr e).expr)

-- count(*), and count and sum of an expression
abbrev pub is_kept_at : node.BoundAggregate-F BoundAggregate BoundBlock BoundSource Input BoundExpr
    → Bool
is_kept_at node.CountRows = true
is_kept_at (node.Of Count scale e) = is_over_row e
is_kept_at (node.Of Sum scale e) = is_over_row e
is_kept_at (node.Of other scale e) = false

unfoldable pub is_kept_aggregate : BoundAggregate → Bool
is_kept_aggregate a = is_kept_at (out-BoundAggregate a)

-- a table
abbrev pub is_table_at : node.BoundSource-F BoundAggregate BoundBlock BoundSource Input BoundExpr
    → Bool
is_table_at (node.Table t) = true
is_table_at other = false

unfoldable pub is_table : BoundSource → Bool
is_table s = is_table_at (out-BoundSource s)

-- one table, WHERE, GROUP BY and no HAVING
abbrev pub is_block_at : node.BoundBlock-F BoundAggregate BoundBlock BoundSource Input BoundExpr
    → Bool
is_block_at (node.Grouped from condition keys aggregates having list) =
    is_table from && (is_over_row condition
    && (list_all is_kept_aggregate aggregates && (holds_always having
    && list_all (λ e. is_some (shown_place e)) list)))
is_block_at other = false

unfoldable pub is_kept_block : BoundBlock → Bool
is_kept_block q = is_block_at (out-BoundBlock q)

-- A query of one table, whose items are GROUP BY columns and aggregates of these; without DISTINCT,
-- subquery, HAVING, ORDER BY and limit.
unfoldable pub is_kept : BoundQuery → Bool
is_kept q = (length q.order == 0) && (not (is_some q.limit) && is_kept_block q.block)

-- something is found exactly where it is there, and is so
abbrev pub IsFound : {A : Type 0} → Bool → (A → Type 0) → Result A KeptPlanError → Type 0
IsFound there P (Ok x) = (there ≡ true) × P x
IsFound there P (Err NotKept) = there ≡ false
IsFound there P (Err OutOfMemory) = Unit {0}

-- an expression over the row itself means what the other does
abbrev pub IsOver : BoundExpr → Expr → Type 0
IsOver e new = (state : State) (row : List Value)
    → (value new row ≡ (expr_meaning state e).value (row ∷ []))
    × (truth new row ≡ (expr_meaning state e).truth (row ∷ []))

-- an aggregate is the other
abbrev pub IsItem : BoundAggregate → KeptAggregate → Type 0
IsItem old new = (state : State) → item_of new ≡ aggregate_meaning state old []

-- each of some aggregates is the other
abbrev pub AreItems : List BoundAggregate → List KeptAggregate → Type 0
AreItems old new = (state : State)
    → map item_of new ≡ map (λ a. aggregate_meaning state a []) old

-- a condition is always True
abbrev pub IsTrueAlways : BoundExpr → Type 0
IsTrueAlways e = (state : State) (row : List Value)
    → truth_rank ((expr_meaning state e).truth (row ∷ [])) ≡ true_rank

-- an item of the select list is the column at this place
abbrev pub IsShown : BoundExpr → ℕ → Type 0
IsShown e place = (state : State) (row : List Value)
    → slice_index_or row place Null ≡ (expr_meaning state e).value (row ∷ [])

-- a select list is that of these columns
abbrev pub AreShown : List BoundExpr → List ℕ → Type 0
AreShown list places = (state : State) (row : List Value)
    → columns Null places row ≡ map (λ e. (expr_meaning state e).value (row ∷ [])) list

-- a plan's rows are its query's
abbrev pub IsPlanOf : BoundBlock → KeptPlan → Type 0
IsPlanOf q p = (state : State) → query_rows p (table_rows state p.table) ≡ rows q [] state

-- how many columns the select list of a grouped query has
abbrev pub columns_at : node.BoundBlock-F BoundAggregate BoundBlock BoundSource Input BoundExpr → ℕ
columns_at (node.Grouped from condition keys aggregates having list) = length list
columns_at other = 0

unfoldable pub columns_of : BoundBlock → ℕ
columns_of q = columns_at (out-BoundBlock q)

-- a plan has its query's rows and as many columns
pub record IsKeptPlan (q : BoundBlock) (p : KeptPlan) : Type 0 where
  pub rows : IsPlanOf q p
  pub columns : length p.list ≡ columns_of q
