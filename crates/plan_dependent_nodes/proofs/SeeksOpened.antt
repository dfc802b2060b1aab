-- What the parts of a query read of the rows around, at each node.
use Rattle.std.proofs.Common.{◌≡◌, ℕ, suc, List, Option, Bool, false, ◌||◌, map, ap, ◌∙◌}
use Rattle.base_set_rows.specs.declared.kind.SetOperation.{SetOperation}
use Rattle.expr_aggregates.specs.declared.function.AggregateFunction.{AggregateFunction}
use Rattle.expr_operators.specs.declared.operator.Comparison.{Comparison}
use Rattle.base_schema.specs.declared.table.TableName.{TableName}
use Rattle.sql_bound_query.specs.declared.query.BoundAggregate.{BoundAggregate, out-BoundAggregate}
use Rattle.sql_bound_query.specs.declared.query.BoundAggregate.TheVariants as aggregate
use Rattle.sql_bound_query.specs.declared.query.BoundAggregate.TheOpen as node
use Rattle.sql_bound_query.specs.declared.query.BoundAggregate.TheFolds.{fold_out-BoundAggregate}
use Rattle.sql_bound_query.specs.declared.query.BoundAggregate.TheFolds.{fold_out-BoundBlock}
use Rattle.sql_bound_query.specs.declared.query.BoundAggregate.TheFolds.{fold_out-BoundSource}
use Rattle.sql_bound_query.specs.declared.query.BoundAggregate.TheFolds.{fold_out-Input}
use Rattle.sql_bound_query.specs.declared.query.BoundAggregate.TheFolds.{fold_out-BoundExpr}
use Rattle.sql_bound_query.specs.declared.query.BoundAggregate.TheFolds.{map-BoundAggregate}
use Rattle.sql_bound_query.specs.declared.query.BoundAggregate.TheFolds.{map-BoundBlock}
use Rattle.sql_bound_query.specs.declared.query.BoundAggregate.TheFolds.{map-BoundSource, map-Input}
use Rattle.sql_bound_query.specs.declared.query.BoundAggregate.TheFolds.{map-BoundExpr}
use Rattle.sql_bound_query.specs.declared.query.BoundBlock.{BoundBlock, out-BoundBlock}
use Rattle.sql_bound_query.specs.declared.query.BoundBlock.TheVariants as block
use Rattle.sql_bound_query.specs.declared.query.BoundExpr.{BoundExpr, out-BoundExpr}
use Rattle.sql_bound_query.specs.declared.query.BoundSource.{BoundSource, out-BoundSource}
use Rattle.sql_bound_query.specs.declared.query.BoundSource.TheVariants as source
use Rattle.sql_bound_query.specs.declared.query.Input.{Input, out-Input}
use Rattle.sql_bound_query.specs.declared.query.Input.TheVariants as input
use Rattle.sql_bound_query.specs.declared.query.SetColumn.{SetColumn}
use Rattle.plan_dependent_nodes.specs.Seeks.{Seeks, any_seeks, aggregate_seeks, block_seeks}
use Rattle.plan_dependent_nodes.specs.Seeks.{source_seeks, seeks_of_source, seeks_so_far}
use Rattle.plan_dependent_nodes.specs.Seeks.{input_seeks, expr_seeks, seeks_of, seeks_in_from}
use Rattle.plan_dependent_nodes.specs.Seeks.{seeks_of_input, seeks_of_expr, seeks_of_aggregate}

unfoldable pub seeks_of_aggregate_at : node.BoundAggregate-F BoundAggregate BoundBlock BoundSource
    Input BoundExpr → Seeks
seeks_of_aggregate_at x =
    aggregate_seeks (map-BoundAggregate BoundAggregate BoundBlock BoundSource Input BoundExpr
    Seeks Seeks Seeks Seeks Seeks seeks_of_aggregate seeks_of seeks_in_from seeks_of_input
    seeks_of_expr x)

pub seeks_of_aggregate_is : (x : BoundAggregate)
    → seeks_of_aggregate x ≡ seeks_of_aggregate_at (out-BoundAggregate x)
unfolding seeks_of_aggregate seeks_of seeks_in_from seeks_of_input seeks_of_expr
    seeks_of_aggregate_at
seeks_of_aggregate_is =
    fold_out-BoundAggregate Seeks Seeks Seeks Seeks Seeks aggregate_seeks block_seeks
    source_seeks input_seeks expr_seeks

unfoldable pub seeks_of_at : node.BoundBlock-F BoundAggregate BoundBlock BoundSource Input BoundExpr
    → Seeks
seeks_of_at x = block_seeks
    (map-BoundBlock BoundAggregate BoundBlock BoundSource Input BoundExpr Seeks Seeks Seeks
    Seeks Seeks seeks_of_aggregate seeks_of seeks_in_from seeks_of_input seeks_of_expr x)

pub seeks_of_is : (x : BoundBlock) → seeks_of x ≡ seeks_of_at (out-BoundBlock x)
unfolding seeks_of_aggregate seeks_of seeks_in_from seeks_of_input seeks_of_expr seeks_of_at
seeks_of_is = fold_out-BoundBlock Seeks Seeks Seeks Seeks Seeks aggregate_seeks block_seeks
    source_seeks input_seeks expr_seeks

unfoldable pub seeks_in_from_at : node.BoundSource-F BoundAggregate BoundBlock BoundSource Input
    BoundExpr → Seeks
seeks_in_from_at x = source_seeks
    (map-BoundSource BoundAggregate BoundBlock BoundSource Input BoundExpr Seeks Seeks Seeks
    Seeks Seeks seeks_of_aggregate seeks_of seeks_in_from seeks_of_input seeks_of_expr x)

pub seeks_in_from_is : (x : BoundSource)
    → seeks_in_from x ≡ seeks_in_from_at (out-BoundSource x)
unfolding seeks_of_aggregate seeks_of seeks_in_from seeks_of_input seeks_of_expr
    seeks_in_from_at
seeks_in_from_is = fold_out-BoundSource Seeks Seeks Seeks Seeks Seeks aggregate_seeks
    block_seeks source_seeks input_seeks expr_seeks

unfoldable pub seeks_of_input_at : node.Input-F BoundAggregate BoundBlock BoundSource Input
    BoundExpr → Seeks
seeks_of_input_at x = input_seeks
    (map-Input BoundAggregate BoundBlock BoundSource Input BoundExpr Seeks Seeks Seeks Seeks
    Seeks seeks_of_aggregate seeks_of seeks_in_from seeks_of_input seeks_of_expr x)

pub seeks_of_input_is : (x : Input) → seeks_of_input x ≡ seeks_of_input_at (out-Input x)
unfolding seeks_of_aggregate seeks_of seeks_in_from seeks_of_input seeks_of_expr
    seeks_of_input_at
seeks_of_input_is = fold_out-Input Seeks Seeks Seeks Seeks Seeks aggregate_seeks block_seeks
    source_seeks input_seeks expr_seeks

unfoldable pub seeks_of_expr_at : node.BoundExpr-F BoundAggregate BoundBlock BoundSource Input
    BoundExpr → Seeks
seeks_of_expr_at x = expr_seeks
    (map-BoundExpr BoundAggregate BoundBlock BoundSource Input BoundExpr Seeks Seeks Seeks Seeks
    Seeks seeks_of_aggregate seeks_of seeks_in_from seeks_of_input seeks_of_expr x)

pub seeks_of_expr_is : (x : BoundExpr) → seeks_of_expr x ≡ seeks_of_expr_at (out-BoundExpr x)
unfolding seeks_of_aggregate seeks_of seeks_in_from seeks_of_input seeks_of_expr
    seeks_of_expr_at
seeks_of_expr_is = fold_out-BoundExpr Seeks Seeks Seeks Seeks Seeks aggregate_seeks
    block_seeks source_seeks input_seeks expr_seeks

pub seeks_Column : (level : ℕ) (place : ℕ)
    → seeks_of_input (input.Column level place) ≡ input_seeks (node.Column level place)
unfolding seeks_of_input_at
seeks_Column level place = seeks_of_input_is (input.Column level place)
    ∙ ap seeks_of_input_at (input.outs-Column level place)

pub seeks_Exists : (q : BoundBlock)
    → seeks_of_input (input.Exists q) ≡ input_seeks (node.Exists (seeks_of q))
unfolding seeks_of_input_at
seeks_Exists q = seeks_of_input_is (input.Exists q) ∙ ap seeks_of_input_at (input.outs-Exists q)

pub seeks_Any : (c : Comparison) (e : BoundExpr) (q : BoundBlock)
    → seeks_of_input (input.Any c e q) ≡ input_seeks (node.Any c (seeks_of_expr e) (seeks_of q))
unfolding seeks_of_input_at
seeks_Any c e q = seeks_of_input_is (input.Any c e q)
    ∙ ap seeks_of_input_at (input.outs-Any c e q)

pub seeks_Scalar : (q : BoundBlock)
    → seeks_of_input (input.Scalar q) ≡ input_seeks (node.Scalar (seeks_of q))
unfolding seeks_of_input_at
seeks_Scalar q = seeks_of_input_is (input.Scalar q) ∙ ap seeks_of_input_at (input.outs-Scalar q)

pub seeks_CountRows : seeks_of_aggregate aggregate.CountRows ≡ aggregate_seeks node.CountRows
unfolding seeks_of_aggregate_at
seeks_CountRows = seeks_of_aggregate_is aggregate.CountRows
    ∙ ap seeks_of_aggregate_at aggregate.outs-CountRows

pub seeks_Of : (function : AggregateFunction) (scale : ℕ) (argument : BoundExpr)
    → seeks_of_aggregate (aggregate.Of function scale argument)
    ≡ aggregate_seeks (node.Of function scale (seeks_of_expr argument))
unfolding seeks_of_aggregate_at
seeks_Of function scale argument = seeks_of_aggregate_is (aggregate.Of function scale argument)
    ∙ ap seeks_of_aggregate_at (aggregate.outs-Of function scale argument)

-- ---- sources, the row so far being 0 rows out

in_Table : (t : TableName) → seeks_in_from (source.Table t) ≡ source_seeks (node.Table t)
unfolding seeks_in_from_at
in_Table t = seeks_in_from_is (source.Table t) ∙ ap seeks_in_from_at (source.outs-Table t)

in_Derived : (kept : Option ℕ) (q : BoundBlock)
    → seeks_in_from (source.Derived kept q) ≡ source_seeks (node.Derived kept (seeks_of q))
unfolding seeks_in_from_at
in_Derived kept q = seeks_in_from_is (source.Derived kept q)
    ∙ ap seeks_in_from_at (source.outs-Derived kept q)

in_Lateral : (q : BoundBlock)
    → seeks_in_from (source.Lateral q) ≡ source_seeks (node.Lateral (seeks_of q))
unfolding seeks_in_from_at
in_Lateral q = seeks_in_from_is (source.Lateral q) ∙ ap seeks_in_from_at (source.outs-Lateral q)

in_Cross : (a : BoundSource) (b : BoundSource)
    → seeks_in_from (source.Cross a b)
    ≡ source_seeks (node.Cross (seeks_in_from a) (seeks_in_from b))
unfolding seeks_in_from_at
in_Cross a b = seeks_in_from_is (source.Cross a b) ∙ ap seeks_in_from_at (source.outs-Cross a b)

in_Inner : (a : BoundSource) (b : BoundSource) (on : BoundExpr)
    → seeks_in_from (source.Inner a b on)
    ≡ source_seeks (node.Inner (seeks_in_from a) (seeks_in_from b) (seeks_of_expr on))
unfolding seeks_in_from_at
in_Inner a b on = seeks_in_from_is (source.Inner a b on)
    ∙ ap seeks_in_from_at (source.outs-Inner a b on)

in_Outer : (a : BoundSource) (b : BoundSource) (width : ℕ) (on : BoundExpr)
    → seeks_in_from (source.Outer a b width on)
    ≡ source_seeks (node.Outer (seeks_in_from a) (seeks_in_from b) width (seeks_of_expr on))
unfolding seeks_in_from_at
in_Outer a b width on = seeks_in_from_is (source.Outer a b width on)
    ∙ ap seeks_in_from_at (source.outs-Outer a b width on)

-- ---- sources, the nearest row around being 0 rows out

-- one row further out
abbrev further : Seeks → Seeks
further m level place = m (suc level) place

pub seeks_Table : (t : TableName) → seeks_of_source (source.Table t) ≡ (λ level place. false)
unfolding seeks_of_source
seeks_Table t = ap further (in_Table t)

pub seeks_Derived : (kept : Option ℕ) (q : BoundBlock)
    → seeks_of_source (source.Derived kept q) ≡ (λ level place. false)
unfolding seeks_of_source
seeks_Derived kept q = ap further (in_Derived kept q)

pub seeks_Lateral : (q : BoundBlock)
    → seeks_of_source (source.Lateral q) ≡ (λ level place. seeks_of q (suc level) place)
unfolding seeks_of_source
seeks_Lateral q = ap further (in_Lateral q)

pub seeks_Cross : (a : BoundSource) (b : BoundSource)
    → seeks_of_source (source.Cross a b)
    ≡ (λ level place. seeks_of_source a level place || seeks_of_source b level place)
unfolding seeks_of_source
seeks_Cross a b = ap further (in_Cross a b)

pub seeks_Inner : (a : BoundSource) (b : BoundSource) (on : BoundExpr)
    → seeks_of_source (source.Inner a b on)
    ≡ (λ level place. seeks_of_source a level place || seeks_of_source b level place
    || seeks_of_expr on (suc level) place)
unfolding seeks_of_source
seeks_Inner a b on = ap further (in_Inner a b on)

pub seeks_Outer : (a : BoundSource) (b : BoundSource) (width : ℕ) (on : BoundExpr)
    → seeks_of_source (source.Outer a b width on)
    ≡ (λ level place. seeks_of_source a level place || seeks_of_source b level place
    || seeks_of_expr on (suc level) place)
unfolding seeks_of_source
seeks_Outer a b width on = ap further (in_Outer a b width on)

-- ---- what sources read of the row so far

-- the nearest row
abbrev nearest : Seeks → ℕ → Bool
nearest m place = m 0 place

pub so_far_Table : (t : TableName) → seeks_so_far (source.Table t) ≡ (λ place. false)
unfolding seeks_so_far
so_far_Table t = ap nearest (in_Table t)

pub so_far_Derived : (kept : Option ℕ) (q : BoundBlock)
    → seeks_so_far (source.Derived kept q) ≡ (λ place. false)
unfolding seeks_so_far
so_far_Derived kept q = ap nearest (in_Derived kept q)

pub so_far_Lateral : (q : BoundBlock)
    → seeks_so_far (source.Lateral q) ≡ (λ place. seeks_of q 0 place)
unfolding seeks_so_far
so_far_Lateral q = ap nearest (in_Lateral q)

pub so_far_Cross : (a : BoundSource) (b : BoundSource)
    → seeks_so_far (source.Cross a b) ≡ (λ place. seeks_so_far a place || seeks_so_far b place)
unfolding seeks_so_far
so_far_Cross a b = ap nearest (in_Cross a b)

pub so_far_Inner : (a : BoundSource) (b : BoundSource) (on : BoundExpr)
    → seeks_so_far (source.Inner a b on) ≡ (λ place. seeks_so_far a place || seeks_so_far b place)
unfolding seeks_so_far
so_far_Inner a b on = ap nearest (in_Inner a b on)

pub so_far_Outer : (a : BoundSource) (b : BoundSource) (width : ℕ) (on : BoundExpr)
    → seeks_so_far (source.Outer a b width on)
    ≡ (λ place. seeks_so_far a place || seeks_so_far b place)
unfolding seeks_so_far
so_far_Outer a b width on = ap nearest (in_Outer a b width on)

-- ---- queries

pub seeks_Plain : (from : BoundSource) (condition : BoundExpr) (list : List BoundExpr)
    → seeks_of (block.Plain from condition list)
    ≡ (λ level place. seeks_of_source from level place || seeks_of_expr condition (suc level) place
    || any_seeks (map seeks_of_expr list) (suc level) place)
unfolding seeks_of_at seeks_of_source
seeks_Plain from condition list = seeks_of_is (block.Plain from condition list)
    ∙ ap seeks_of_at (block.outs-Plain from condition list)

pub seeks_Grouped : (from : BoundSource) (condition : BoundExpr) (keys : List ℕ)
    (aggregates : List BoundAggregate) (having : BoundExpr) (list : List BoundExpr)
    → seeks_of (block.Grouped from condition keys aggregates having list)
    ≡ (λ level place. seeks_of_source from level place || seeks_of_expr condition (suc level) place
    || any_seeks (map seeks_of_aggregate aggregates) (suc level) place
    || seeks_of_expr having (suc level) place
    || any_seeks (map seeks_of_expr list) (suc level) place)
unfolding seeks_of_at seeks_of_source
seeks_Grouped from condition keys aggregates having list =
    seeks_of_is (block.Grouped from condition keys aggregates having list)
    ∙ ap seeks_of_at (block.outs-Grouped from condition keys aggregates having list)

pub seeks_Distinct : (q : BoundBlock)
    → seeks_of (block.Distinct q) ≡ block_seeks (node.Distinct (seeks_of q))
unfolding seeks_of_at
seeks_Distinct q = seeks_of_is (block.Distinct q) ∙ ap seeks_of_at (block.outs-Distinct q)

pub seeks_Set : (a b : BoundBlock) (columns : List SetColumn) (operation : SetOperation)
    → seeks_of (block.Set a b columns operation)
    ≡ block_seeks (node.Set (seeks_of a) (seeks_of b) columns operation)
unfolding seeks_of_at
seeks_Set a b columns operation = seeks_of_is (block.Set a b columns operation)
    ∙ ap seeks_of_at (block.outs-Set a b columns operation)

pub seeks_expr : (e : BoundExpr)
    → seeks_of_expr e ≡ expr_seeks
    (record {
      inputs = map seeks_of_input (out-BoundExpr e).inputs;
      expr = (out-BoundExpr e).expr;
    })
unfolding seeks_of_expr_at
seeks_expr e = seeks_of_expr_is e
