-- The meanings of a bound query at each node.
use Rattle.std.proofs.Common.{◌≡◌, ℕ, List, map, Option, ap, ◌∙◌}
use Rattle.base_set_rows.specs.declared.kind.SetOperation.{SetOperation}
use Rattle.expr_operators.specs.declared.operator.Comparison.{Comparison}
use Rattle.expr_aggregates.specs.declared.function.AggregateFunction.{AggregateFunction}
use Rattle.base_schema.specs.State.{State}
use Rattle.base_value.specs.declared.value.Value.{Value}
use Rattle.base_schema.specs.declared.table.TableName.{TableName}
use Rattle.sql_bound_query.specs.declared.query.BoundAggregate.{BoundAggregate, out-BoundAggregate}
use Rattle.sql_bound_query.specs.declared.query.BoundAggregate.TheVariants as aggregate
use Rattle.sql_bound_query.specs.declared.query.BoundAggregate.TheOpen as node
use Rattle.sql_bound_query.specs.declared.query.BoundAggregate.TheFolds.{fold_out-BoundAggregate}
use Rattle.sql_bound_query.specs.declared.query.BoundAggregate.TheFolds.{fold_out-BoundBlock}
use Rattle.sql_bound_query.specs.declared.query.BoundAggregate.TheFolds.{fold_out-BoundSource}
use Rattle.sql_bound_query.specs.declared.query.BoundAggregate.TheFolds.{fold_out-Input}
use Rattle.sql_bound_query.specs.declared.query.BoundAggregate.TheFolds.{fold_out-BoundExpr}
use Rattle.sql_bound_query.specs.declared.query.BoundAggregate.TheFolds.{map-BoundAggregate}
use Rattle.sql_bound_query.specs.declared.query.BoundAggregate.TheFolds.{map-BoundBlock}
use Rattle.sql_bound_query.specs.declared.query.BoundAggregate.TheFolds.{map-BoundSource, map-Input}
use Rattle.sql_bound_query.specs.declared.query.BoundAggregate.TheFolds.{map-BoundExpr}
use Rattle.sql_bound_query.specs.declared.query.BoundBlock.{BoundBlock, out-BoundBlock}
use Rattle.sql_bound_query.specs.declared.query.BoundBlock.TheVariants as block
use Rattle.sql_bound_query.specs.declared.query.BoundExpr.{BoundExpr, out-BoundExpr}
use Rattle.sql_bound_query.specs.declared.query.BoundSource.{BoundSource, out-BoundSource}
use Rattle.sql_bound_query.specs.declared.query.BoundSource.TheVariants as source
use Rattle.sql_bound_query.specs.declared.query.SetColumn.{SetColumn}
use Rattle.sql_bound_query.specs.declared.query.Input.{Input, out-Input}
use Rattle.sql_bound_query.specs.declared.query.Input.TheVariants as input
use Rattle.sql_bound_query.specs.Meaning.{Env, InputMeaning, ExprMeaning, AggregateMeaning}
use Rattle.sql_bound_query.specs.Meaning.{RowsMeaning, FromMeaning, aggregate_step, block_step}
use Rattle.sql_bound_query.specs.Meaning.{source_step, input_step, expr_step, aggregate_meaning}
use Rattle.sql_bound_query.specs.Meaning.{block_meaning, source_meaning, input_meaning, expr_meaning}

unfoldable pub aggregate_meaning_at : State
    → node.BoundAggregate-F BoundAggregate BoundBlock BoundSource Input BoundExpr → AggregateMeaning
aggregate_meaning_at state x =
    aggregate_step (map-BoundAggregate BoundAggregate BoundBlock BoundSource Input BoundExpr
    AggregateMeaning RowsMeaning FromMeaning InputMeaning ExprMeaning (aggregate_meaning state)
    (block_meaning state) (source_meaning state) (input_meaning state) (expr_meaning state) x)

pub aggregate_meaning_is : (state : State) (x : BoundAggregate)
    → aggregate_meaning state x ≡ aggregate_meaning_at state (out-BoundAggregate x)
unfolding aggregate_meaning block_meaning source_meaning input_meaning expr_meaning
    aggregate_meaning_at
aggregate_meaning_is state =
    fold_out-BoundAggregate AggregateMeaning RowsMeaning FromMeaning InputMeaning ExprMeaning
    aggregate_step block_step (source_step state) input_step expr_step

unfoldable pub block_meaning_at : State
    → node.BoundBlock-F BoundAggregate BoundBlock BoundSource Input BoundExpr → RowsMeaning
block_meaning_at state x =
    block_step (map-BoundBlock BoundAggregate BoundBlock BoundSource Input BoundExpr
    AggregateMeaning RowsMeaning FromMeaning InputMeaning ExprMeaning (aggregate_meaning state)
    (block_meaning state) (source_meaning state) (input_meaning state) (expr_meaning state) x)

pub block_meaning_is : (state : State) (x : BoundBlock)
    → block_meaning state x ≡ block_meaning_at state (out-BoundBlock x)
unfolding aggregate_meaning block_meaning source_meaning input_meaning expr_meaning block_meaning_at
block_meaning_is state =
    fold_out-BoundBlock AggregateMeaning RowsMeaning FromMeaning InputMeaning ExprMeaning
    aggregate_step block_step (source_step state) input_step expr_step

unfoldable pub source_meaning_at : State
    → node.BoundSource-F BoundAggregate BoundBlock BoundSource Input BoundExpr → FromMeaning
source_meaning_at state x =
    source_step state (map-BoundSource BoundAggregate BoundBlock BoundSource Input BoundExpr
    AggregateMeaning RowsMeaning FromMeaning InputMeaning ExprMeaning (aggregate_meaning state)
    (block_meaning state) (source_meaning state) (input_meaning state) (expr_meaning state) x)

pub source_meaning_is : (state : State) (x : BoundSource)
    → source_meaning state x ≡ source_meaning_at state (out-BoundSource x)
unfolding aggregate_meaning block_meaning source_meaning input_meaning expr_meaning
    source_meaning_at
source_meaning_is state =
    fold_out-BoundSource AggregateMeaning RowsMeaning FromMeaning InputMeaning ExprMeaning
    aggregate_step block_step (source_step state) input_step expr_step

unfoldable pub input_meaning_at : State
    → node.Input-F BoundAggregate BoundBlock BoundSource Input BoundExpr → InputMeaning
input_meaning_at state x =
    input_step (map-Input BoundAggregate BoundBlock BoundSource Input BoundExpr AggregateMeaning
    RowsMeaning FromMeaning InputMeaning ExprMeaning (aggregate_meaning state) (block_meaning state)
    (source_meaning state) (input_meaning state) (expr_meaning state) x)

pub input_meaning_is : (state : State) (x : Input)
    → input_meaning state x ≡ input_meaning_at state (out-Input x)
unfolding aggregate_meaning block_meaning source_meaning input_meaning expr_meaning input_meaning_at
input_meaning_is state =
    fold_out-Input AggregateMeaning RowsMeaning FromMeaning InputMeaning ExprMeaning aggregate_step
    block_step (source_step state) input_step expr_step

unfoldable pub expr_meaning_at : State
    → node.BoundExpr-F BoundAggregate BoundBlock BoundSource Input BoundExpr → ExprMeaning
expr_meaning_at state x =
    expr_step (map-BoundExpr BoundAggregate BoundBlock BoundSource Input BoundExpr AggregateMeaning
    RowsMeaning FromMeaning InputMeaning ExprMeaning (aggregate_meaning state) (block_meaning state)
    (source_meaning state) (input_meaning state) (expr_meaning state) x)

pub expr_meaning_is : (state : State) (x : BoundExpr)
    → expr_meaning state x ≡ expr_meaning_at state (out-BoundExpr x)
unfolding aggregate_meaning block_meaning source_meaning input_meaning expr_meaning expr_meaning_at
expr_meaning_is state = fold_out-BoundExpr AggregateMeaning RowsMeaning FromMeaning InputMeaning
    ExprMeaning aggregate_step block_step (source_step state) input_step expr_step

pub input_Column : (state : State) (level : ℕ) (place : ℕ)
    → input_meaning state (input.Column level place) ≡ input_step (node.Column level place)
unfolding input_meaning_at
input_Column state level place = input_meaning_is state (input.Column level place)
    ∙ ap (input_meaning_at state) (input.outs-Column level place)

pub input_Exists : (state : State) (q : BoundBlock)
    → input_meaning state (input.Exists q) ≡ input_step (node.Exists (block_meaning state q))
unfolding input_meaning_at
input_Exists state q = input_meaning_is state (input.Exists q)
    ∙ ap (input_meaning_at state) (input.outs-Exists q)

pub input_Any : (state : State) (c : Comparison) (e : BoundExpr) (q : BoundBlock)
    → input_meaning state (input.Any c e q)
    ≡ input_step (node.Any c (expr_meaning state e) (block_meaning state q))
unfolding input_meaning_at
input_Any state c e q = input_meaning_is state (input.Any c e q)
    ∙ ap (input_meaning_at state) (input.outs-Any c e q)

pub input_Scalar : (state : State) (q : BoundBlock)
    → input_meaning state (input.Scalar q) ≡ input_step (node.Scalar (block_meaning state q))
unfolding input_meaning_at
input_Scalar state q = input_meaning_is state (input.Scalar q)
    ∙ ap (input_meaning_at state) (input.outs-Scalar q)

pub aggregate_CountRows : (state : State)
    → aggregate_meaning state aggregate.CountRows ≡ aggregate_step node.CountRows
unfolding aggregate_meaning_at
aggregate_CountRows state = aggregate_meaning_is state aggregate.CountRows
    ∙ ap (aggregate_meaning_at state) aggregate.outs-CountRows

pub aggregate_Of : (state : State) (function : AggregateFunction) (scale : ℕ) (argument : BoundExpr)
    → aggregate_meaning state (aggregate.Of function scale argument)
    ≡ aggregate_step (node.Of function scale (expr_meaning state argument))
unfolding aggregate_meaning_at
aggregate_Of state function scale argument =
    aggregate_meaning_is state (aggregate.Of function scale argument)
    ∙ ap (aggregate_meaning_at state) (aggregate.outs-Of function scale argument)

pub source_Table : (state : State) (t : TableName)
    → source_meaning state (source.Table t) ≡ source_step state (node.Table t)
unfolding source_meaning_at
source_Table state t = source_meaning_is state (source.Table t)
    ∙ ap (source_meaning_at state) (source.outs-Table t)

pub source_Derived : (state : State) (kept : Option ℕ) (q : BoundBlock)
    → source_meaning state (source.Derived kept q)
    ≡ source_step state (node.Derived kept (block_meaning state q))
unfolding source_meaning_at
source_Derived state kept q = source_meaning_is state (source.Derived kept q)
    ∙ ap (source_meaning_at state) (source.outs-Derived kept q)

pub source_Lateral : (state : State) (q : BoundBlock)
    → source_meaning state (source.Lateral q)
    ≡ source_step state (node.Lateral (block_meaning state q))
unfolding source_meaning_at
source_Lateral state q = source_meaning_is state (source.Lateral q)
    ∙ ap (source_meaning_at state) (source.outs-Lateral q)

pub source_Cross : (state : State) (a : BoundSource) (b : BoundSource)
    → source_meaning state (source.Cross a b)
    ≡ source_step state (node.Cross (source_meaning state a) (source_meaning state b))
unfolding source_meaning_at
source_Cross state a b = source_meaning_is state (source.Cross a b)
    ∙ ap (source_meaning_at state) (source.outs-Cross a b)

pub source_Inner : (state : State) (a : BoundSource) (b : BoundSource) (on : BoundExpr)
    → source_meaning state (source.Inner a b on)
    ≡ source_step state (node.Inner (source_meaning state a) (source_meaning state b)
    (expr_meaning state on))
unfolding source_meaning_at
source_Inner state a b on = source_meaning_is state (source.Inner a b on)
    ∙ ap (source_meaning_at state) (source.outs-Inner a b on)

pub source_Outer : (state : State) (a : BoundSource) (b : BoundSource) (width : ℕ) (on : BoundExpr)
    → source_meaning state (source.Outer a b width on)
    ≡ source_step state (node.Outer (source_meaning state a) (source_meaning state b) width
    (expr_meaning state on))
unfolding source_meaning_at
source_Outer state a b width on = source_meaning_is state (source.Outer a b width on)
    ∙ ap (source_meaning_at state) (source.outs-Outer a b width on)

pub block_Plain : (state : State) (from : BoundSource) (condition : BoundExpr)
    (list : List BoundExpr) → block_meaning state (block.Plain from condition list)
    ≡ block_step (node.Plain (source_meaning state from) (expr_meaning state condition)
    (map (expr_meaning state) list))
unfolding block_meaning_at
block_Plain state from condition list = block_meaning_is state (block.Plain from condition list)
    ∙ ap (block_meaning_at state) (block.outs-Plain from condition list)

pub block_Grouped : (state : State) (from : BoundSource) (condition : BoundExpr) (keys : List ℕ)
    (aggregates : List BoundAggregate) (having : BoundExpr) (list : List BoundExpr)
    → block_meaning state (block.Grouped from condition keys aggregates having list)
    ≡ block_step (node.Grouped (source_meaning state from) (expr_meaning state condition) keys
    (map (aggregate_meaning state) aggregates) (expr_meaning state having)
    (map (expr_meaning state) list))
unfolding block_meaning_at
block_Grouped state from condition keys aggregates having list =
    block_meaning_is state (block.Grouped from condition keys aggregates having list)
    ∙ ap (block_meaning_at state) (block.outs-Grouped from condition keys aggregates having list)

pub block_Distinct : (state : State) (q : BoundBlock)
    → block_meaning state (block.Distinct q) ≡ block_step (node.Distinct (block_meaning state q))
unfolding block_meaning_at
block_Distinct state q = block_meaning_is state (block.Distinct q)
    ∙ ap (block_meaning_at state) (block.outs-Distinct q)

pub block_Set : (state : State) (a b : BoundBlock) (columns : List SetColumn)
    (operation : SetOperation) → block_meaning state (block.Set a b columns operation)
    ≡ block_step (node.Set (block_meaning state a) (block_meaning state b) columns operation)
unfolding block_meaning_at
block_Set state a b columns operation = block_meaning_is state (block.Set a b columns operation)
    ∙ ap (block_meaning_at state) (block.outs-Set a b columns operation)

pub expr_is : (state : State) (e : BoundExpr)
    → expr_meaning state e ≡ expr_step
    (record {
      inputs = map (input_meaning state) (out-BoundExpr e).inputs;
      expr = (out-BoundExpr e).expr;
    })
unfolding expr_meaning_at
expr_is state e = expr_meaning_is state e

pub input_Column_at : (state : State) (level : ℕ) (place : ℕ) (env : Env)
    → input_meaning state (input.Column level place) env ≡ input_step (node.Column level place) env
input_Column_at state level place env =
    ap (λ (m : InputMeaning). m env) (input_Column state level place)

pub input_Exists_at : (state : State) (q : BoundBlock) (env : Env)
    → input_meaning state (input.Exists q) env
    ≡ input_step (node.Exists (block_meaning state q)) env
input_Exists_at state q env = ap (λ (m : InputMeaning). m env) (input_Exists state q)

pub input_Any_at : (state : State) (c : Comparison) (e : BoundExpr) (q : BoundBlock) (env : Env)
    → input_meaning state (input.Any c e q) env
    ≡ input_step (node.Any c (expr_meaning state e) (block_meaning state q)) env
input_Any_at state c e q env = ap (λ (m : InputMeaning). m env) (input_Any state c e q)

pub input_Scalar_at : (state : State) (q : BoundBlock) (env : Env)
    → input_meaning state (input.Scalar q) env
    ≡ input_step (node.Scalar (block_meaning state q)) env
input_Scalar_at state q env = ap (λ (m : InputMeaning). m env) (input_Scalar state q)

pub aggregate_CountRows_at : (state : State) (env : Env)
    → aggregate_meaning state aggregate.CountRows env ≡ aggregate_step node.CountRows env
aggregate_CountRows_at state env = ap (λ (m : AggregateMeaning). m env) (aggregate_CountRows state)

pub aggregate_Of_at : (state : State) (function : AggregateFunction) (scale : ℕ)
    (argument : BoundExpr) (env : Env)
    → aggregate_meaning state (aggregate.Of function scale argument) env
    ≡ aggregate_step (node.Of function scale (expr_meaning state argument)) env
aggregate_Of_at state function scale argument env =
    ap (λ (m : AggregateMeaning). m env) (aggregate_Of state function scale argument)

pub source_Table_at : (state : State) (t : TableName) (p : List Value) (env : Env)
    → source_meaning state (source.Table t) p env ≡ source_step state (node.Table t) p env
source_Table_at state t p env = ap (λ (m : FromMeaning). m p env) (source_Table state t)

pub source_Derived_at : (state : State) (kept : Option ℕ) (q : BoundBlock) (p : List Value)
    (env : Env)
    → source_meaning state (source.Derived kept q) p env
    ≡ source_step state (node.Derived kept (block_meaning state q)) p env
source_Derived_at state kept q p env =
    ap (λ (m : FromMeaning). m p env) (source_Derived state kept q)

pub source_Lateral_at : (state : State) (q : BoundBlock) (p : List Value) (env : Env)
    → source_meaning state (source.Lateral q) p env
    ≡ source_step state (node.Lateral (block_meaning state q)) p env
source_Lateral_at state q p env = ap (λ (m : FromMeaning). m p env) (source_Lateral state q)

pub source_Cross_at : (state : State) (a : BoundSource) (b : BoundSource) (p : List Value)
    (env : Env) → source_meaning state (source.Cross a b) p env
    ≡ source_step state (node.Cross (source_meaning state a) (source_meaning state b)) p env
source_Cross_at state a b p env = ap (λ (m : FromMeaning). m p env) (source_Cross state a b)

pub source_Inner_at : (state : State) (a : BoundSource) (b : BoundSource) (on : BoundExpr)
    (p : List Value) (env : Env) → source_meaning state (source.Inner a b on) p env
    ≡ source_step state (node.Inner (source_meaning state a) (source_meaning state b)
    (expr_meaning state on)) p env
source_Inner_at state a b on p env =
    ap (λ (m : FromMeaning). m p env) (source_Inner state a b on)

pub source_Outer_at : (state : State) (a : BoundSource) (b : BoundSource) (width : ℕ)
    (on : BoundExpr) (p : List Value) (env : Env)
    → source_meaning state (source.Outer a b width on) p env
    ≡ source_step state (node.Outer (source_meaning state a) (source_meaning state b) width
    (expr_meaning state on)) p env
source_Outer_at state a b width on p env =
    ap (λ (m : FromMeaning). m p env) (source_Outer state a b width on)

pub block_Plain_at : (state : State) (from : BoundSource) (condition : BoundExpr)
    (list : List BoundExpr) (env : Env)
    → block_meaning state (block.Plain from condition list) env
    ≡ block_step (node.Plain (source_meaning state from) (expr_meaning state condition)
    (map (expr_meaning state) list)) env
block_Plain_at state from condition list env =
    ap (λ (m : RowsMeaning). m env) (block_Plain state from condition list)

pub block_Grouped_at : (state : State) (from : BoundSource) (condition : BoundExpr) (keys : List ℕ)
    (aggregates : List BoundAggregate) (having : BoundExpr) (list : List BoundExpr) (env : Env)
    → block_meaning state (block.Grouped from condition keys aggregates having list) env
    ≡ block_step (node.Grouped (source_meaning state from) (expr_meaning state condition) keys
    (map (aggregate_meaning state) aggregates) (expr_meaning state having)
    (map (expr_meaning state) list)) env
block_Grouped_at state from condition keys aggregates having list env =
    ap (λ (m : RowsMeaning). m env) (block_Grouped state from condition keys aggregates having list)

pub block_Distinct_at : (state : State) (q : BoundBlock) (env : Env)
    → block_meaning state (block.Distinct q) env
    ≡ block_step (node.Distinct (block_meaning state q)) env
block_Distinct_at state q env = ap (λ (m : RowsMeaning). m env) (block_Distinct state q)

pub block_Set_at : (state : State) (a b : BoundBlock) (columns : List SetColumn)
    (operation : SetOperation) (env : Env)
    → block_meaning state (block.Set a b columns operation) env
    ≡ block_step (node.Set (block_meaning state a) (block_meaning state b) columns operation) env
block_Set_at state a b columns operation env =
    ap (λ (m : RowsMeaning). m env) (block_Set state a b columns operation)

-- each equation at an environment, by which a query computes
pub ruleset query_opened = (
  input_Column_at,
  input_Exists_at,
  input_Any_at,
  input_Scalar_at,
  aggregate_CountRows_at,
  aggregate_Of_at,
  source_Table_at,
  source_Derived_at,
  source_Lateral_at,
  source_Cross_at,
  source_Inner_at,
  source_Outer_at,
  block_Plain_at,
  block_Grouped_at,
  block_Distinct_at,
  block_Set_at,
  expr_is,
)
