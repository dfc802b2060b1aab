-- The rows of a bound query, with their standings, by plain lists and nested loops.
use Rattle.std.specs.Prelude.{ℕ, List, [], ◌∷◌, ◌++◌, map, min, replicate, slice_index_or}
use Rattle.std.specs.List.{flat_map}
use Rattle.base_row_laws.specs.Ranked.{Ranked, ranked, true_rank}
use Rattle.base_row_laws.specs.Rows.{columns, scanned}
use Rattle.base_row_laws.specs.Operators.{select, project, join_loop, outer_loop, group_by, total}
use Rattle.base_row_laws.specs.Operators.{distinct, mark_of, scalar_of}
use Rattle.base_row_laws.specs.Aggregates.{aggregated, count_rows}
use Rattle.base_set_rows.specs.SetOperations.{set_rows}
use Rattle.base_value.specs.declared.truth.Truth.{Truth}
use Rattle.base_value.specs.declared.value.Value.{Value}
use Rattle.base_value.specs.declared.value.Value.TheVariants.{Null}
use Rattle.base_value.specs.Truth.{truth_rank}
use Rattle.base_value.specs.Value.{same_value}
use Rattle.expr_operators.specs.declared.operator.Comparison.{Comparison}
use Rattle.expr_scalar.specs.Meaning.{value, truth}
use Rattle.expr_operators.specs.Operators.{compared}
use Rattle.base_schema.specs.State.{State, table_rows}
use Rattle.sql_bound_query.specs.declared.query.BoundAggregate.{BoundAggregate}
use Rattle.sql_bound_query.specs.declared.query.BoundBlock.{BoundBlock}
use Rattle.sql_bound_query.specs.declared.query.BoundExpr.{BoundExpr}
use Rattle.sql_bound_query.specs.declared.query.BoundSource.{BoundSource}
use Rattle.sql_bound_query.specs.declared.query.Input.{Input}
use Rattle.sql_bound_query.specs.declared.query.SetColumn.{SetColumn}
use Rattle.sql_bound_query.specs.declared.query.BoundAggregate.TheOpen as node
use Rattle.sql_bound_query.specs.declared.query.BoundAggregate.TheFolds.{fold-Input, fold-BoundExpr}
use Rattle.sql_bound_query.specs.declared.query.BoundAggregate.TheFolds.{fold-BoundAggregate}
use Rattle.sql_bound_query.specs.declared.query.BoundAggregate.TheFolds.{fold-BoundSource}
use Rattle.sql_bound_query.specs.declared.query.BoundAggregate.TheFolds.{fold-BoundBlock}
use Rattle.expr_aggregates.specs.Values.{written, value_rank, reading, aggregate_of}

-- the rows of the queries around an expression, the innermost first
abbrev pub Env : Type 0
Env = List (List Value)

-- the value of a column n levels out; null where it is not there
abbrev pub column : Env → ℕ → ℕ → Value
column env level place = slice_index_or (slice_index_or env level []) place Null

-- what an input is under the rows around
abbrev pub InputMeaning : Type 0
InputMeaning = Env → Value

-- what an expression means under the rows around
pub record ExprMeaning : Type 0 where
  pub value : Env → Value
  pub truth : Env → Truth

-- an aggregate under the rows around: what it reads of each row of a group, and what it makes of
-- these values
abbrev pub AggregateMeaning : Type 0
AggregateMeaning = Env → (List Value → Value) × (List Value → Value)

-- the rows of a query under the rows around
abbrev pub RowsMeaning : Type 0
RowsMeaning = Env → List (Ranked Value)

-- the rows of a source under the row so far, which is that of all items to its left in the same
-- FROM, and the rows around its query
abbrev pub FromMeaning : Type 0
FromMeaning = List Value → RowsMeaning

-- a condition over each row, put before the rows around, as a rank
abbrev pub holds_for : ExprMeaning → Env → List Value → ℕ
holds_for e env r = truth_rank (e.truth (r ∷ env))

-- the select list over each row, put before the rows around
abbrev pub listed : List ExprMeaning → Env → List Value → List Value
listed es env r = map (λ (e : ExprMeaning). e.value (r ∷ env)) es

-- EXISTS: the greatest standing of the rows, False for none
abbrev pub exists_mark : List (Ranked Value) → Value
exists_mark rows = mark_of written (λ r. true_rank) [] rows

-- ANY: the greatest of lesser(standing, x compared with the row's first value), False for none
abbrev pub any_mark : Comparison → Value → List (Ranked Value) → Value
any_mark c x rows = mark_of written (λ r. truth_rank (compared c x (slice_index_or r 0 Null))) []
    rows

-- null for no row, TooManyRows for more than one, else the one row's first value
abbrev pub single_value : List (Ranked Value) → Value
single_value rows = scalar_of written value_rank 0 rows

-- each left row with each row to its right, taken anew for it, at the lesser standing
abbrev pub cross_loop : {V : Type 0} → List (Ranked V) → (List V → List (Ranked V))
    → List (Ranked V)
cross_loop ls R =
    flat_map
    (λ l. map (λ r. ranked (l.values ++ r.values) (min l.standing r.standing)) (R l.values))
    ls

-- the groups by these columns, or where there are none the one group of all rows: their columns,
-- then their aggregates
abbrev pub groups : List ℕ → (List (Ranked Value) → List Value) → List (Ranked Value)
    → List (Ranked Value)
groups [] aggregates rows = total aggregates rows
groups (k ∷ ks) aggregates rows = group_by same_value (columns Null (k ∷ ks)) aggregates rows

-- what the columns of a set operation are of a row of the left side
abbrev pub left_columns : List SetColumn → List Value → List Value
left_columns columns r = map (λ (c : SetColumn). value c.left r) columns

-- what they are of a row of the right side
abbrev pub right_columns : List SetColumn → List Value → List Value
right_columns columns r = map (λ (c : SetColumn). value c.right r) columns

-- each input
abbrev pub input_step : node.Input-F AggregateMeaning RowsMeaning FromMeaning InputMeaning
    ExprMeaning → InputMeaning
input_step (node.Column level place) env = column env level place
input_step (node.Exists q) env = exists_mark (q env)
input_step (node.Any c e q) env = any_mark c (e.value env) (q env)
input_step (node.Scalar q) env = single_value (q env)

-- an expression: over the row of its inputs
abbrev pub expr_step : node.BoundExpr-F AggregateMeaning RowsMeaning FromMeaning InputMeaning
    ExprMeaning → ExprMeaning
expr_step e = record {
  value = λ env. value e.expr (map (λ (i : InputMeaning). i env) e.inputs);
  truth = λ env. truth e.expr (map (λ (i : InputMeaning). i env) e.inputs);
}

-- an aggregate: of its argument over each row, put before the rows around
abbrev pub aggregate_step : node.BoundAggregate-F AggregateMeaning RowsMeaning FromMeaning
    InputMeaning ExprMeaning → AggregateMeaning
aggregate_step node.CountRows env = (λ r. Null, count_rows (reading 0))
aggregate_step (node.Of function scale argument) env =
    (λ r. argument.value (r ∷ env), aggregate_of function scale)

-- The rows of a source under the row so far p and the rows around its query. A derived table and a
-- view see no row around them, a lateral item sees p before the rows around. The right side of a
-- comma or a join is taken anew for each left row l, which stands behind p. ON sees the joined row
-- before the rows around, and not p.
abbrev pub source_step : State
    → node.BoundSource-F AggregateMeaning RowsMeaning FromMeaning InputMeaning ExprMeaning
    → FromMeaning
source_step state (node.Table t) p env = scanned (table_rows state t)
source_step state (node.Derived kept q) p env = q []
source_step state (node.Lateral q) p env = q (p ∷ env)
source_step state (node.Cross a b) p env = cross_loop (a p env) (λ l. b (p ++ l) env)
source_step state (node.Inner a b on) p env =
    join_loop (holds_for on env) (a p env) (λ l. b (p ++ l) env)
source_step state (node.Outer a b width on) p env =
    outer_loop (replicate width Null) (holds_for on env) (a p env) (λ l. b (p ++ l) env)

-- the rows of a query: FROM, which begins with a row so far of no columns, WHERE, groups with their
-- aggregates, HAVING, the select list; DISTINCT; set operations
abbrev pub block_step : node.BoundBlock-F AggregateMeaning RowsMeaning FromMeaning InputMeaning
    ExprMeaning → RowsMeaning
block_step (node.Plain from condition list) env =
    project (listed list env) (select (holds_for condition env) (from [] env))
block_step (node.Grouped from condition keys aggregates having list) env =
    let there = select (holds_for condition env) (from [] env) in
    let grouped = groups keys (aggregated (map (λ (a : AggregateMeaning). a env) aggregates))
    there in
    project (listed list env) (select (holds_for having env) grouped)
block_step (node.Distinct q) env = distinct same_value (q env)
block_step (node.Set a b columns operation) env =
    set_rows same_value operation (project (left_columns columns) (a env))
    (project (right_columns columns) (b env))

-- an input in a state, node by node from the leaves of its tree
unfoldable pub input_meaning : State → Input → InputMeaning
input_meaning state = fold-Input AggregateMeaning RowsMeaning FromMeaning InputMeaning ExprMeaning
    aggregate_step block_step (source_step state) input_step expr_step

-- the same of an expression
unfoldable pub expr_meaning : State → BoundExpr → ExprMeaning
expr_meaning state = fold-BoundExpr AggregateMeaning RowsMeaning FromMeaning InputMeaning
    ExprMeaning aggregate_step block_step (source_step state) input_step expr_step

-- the same of an aggregate
unfoldable pub aggregate_meaning : State → BoundAggregate → AggregateMeaning
aggregate_meaning state =
    fold-BoundAggregate AggregateMeaning RowsMeaning FromMeaning InputMeaning ExprMeaning
    aggregate_step block_step (source_step state) input_step expr_step

-- the same of a source
unfoldable pub source_meaning : State → BoundSource → FromMeaning
source_meaning state = fold-BoundSource AggregateMeaning RowsMeaning FromMeaning InputMeaning
    ExprMeaning aggregate_step block_step (source_step state) input_step expr_step

-- the same of a query
unfoldable pub block_meaning : State → BoundBlock → RowsMeaning
block_meaning state = fold-BoundBlock AggregateMeaning RowsMeaning FromMeaning InputMeaning
    ExprMeaning aggregate_step block_step (source_step state) input_step expr_step

-- the rows of a query under the rows around it
unfoldable pub rows : BoundBlock → Env → State → List (Ranked Value)
rows q env state = block_meaning state q env
