-- The tables of a bound query at each node.
use Rattle.std.proofs.Common.{◌≡◌, ℕ, List, map, Option, ap, ◌∙◌}
use Rattle.expr_aggregates.specs.declared.function.AggregateFunction.{AggregateFunction}
use Rattle.base_set_rows.specs.declared.kind.SetOperation.{SetOperation}
use Rattle.expr_operators.specs.declared.operator.Comparison.{Comparison}
use Rattle.sql_bound_query.specs.declared.query.SetColumn.{SetColumn}
use Rattle.base_schema.specs.declared.table.TableName.{TableName}
use Rattle.sql_bound_query.specs.declared.query.BoundAggregate.{BoundAggregate, out-BoundAggregate}
use Rattle.sql_bound_query.specs.declared.query.BoundAggregate.TheVariants as aggregate
use Rattle.sql_bound_query.specs.declared.query.BoundAggregate.TheOpen as node
use Rattle.sql_bound_query.specs.declared.query.BoundAggregate.TheFolds.{fold_out-BoundAggregate}
use Rattle.sql_bound_query.specs.declared.query.BoundAggregate.TheFolds.{fold_out-BoundBlock}
use Rattle.sql_bound_query.specs.declared.query.BoundAggregate.TheFolds.{fold_out-BoundSource}
use Rattle.sql_bound_query.specs.declared.query.BoundAggregate.TheFolds.{fold_out-Input}
use Rattle.sql_bound_query.specs.declared.query.BoundAggregate.TheFolds.{fold_out-BoundExpr}
use Rattle.sql_bound_query.specs.declared.query.BoundAggregate.TheFolds.{map-BoundAggregate}
use Rattle.sql_bound_query.specs.declared.query.BoundAggregate.TheFolds.{map-BoundBlock}
use Rattle.sql_bound_query.specs.declared.query.BoundAggregate.TheFolds.{map-BoundSource, map-Input}
use Rattle.sql_bound_query.specs.declared.query.BoundAggregate.TheFolds.{map-BoundExpr}
use Rattle.sql_bound_query.specs.declared.query.BoundBlock.{BoundBlock, out-BoundBlock}
use Rattle.sql_bound_query.specs.declared.query.BoundBlock.TheVariants as block
use Rattle.sql_bound_query.specs.declared.query.BoundExpr.{BoundExpr, out-BoundExpr}
use Rattle.sql_bound_query.specs.declared.query.BoundSource.{BoundSource, out-BoundSource}
use Rattle.sql_bound_query.specs.declared.query.BoundSource.TheVariants as source
use Rattle.sql_bound_query.specs.declared.query.Input.{Input, out-Input}
use Rattle.sql_bound_query.specs.declared.query.Input.TheVariants as input
use Rattle.sql_bound_query.specs.Reads.{Tables, aggregate_tables, block_tables, source_tables}
use Rattle.sql_bound_query.specs.Reads.{input_tables, expr_tables, tables, tables_of_source}
use Rattle.sql_bound_query.specs.Reads.{tables_of_input, tables_of_expr, tables_of_aggregate}

unfoldable pub tables_of_aggregate_at : node.BoundAggregate-F BoundAggregate BoundBlock BoundSource
    Input BoundExpr → Tables
tables_of_aggregate_at x =
    aggregate_tables (map-BoundAggregate BoundAggregate BoundBlock BoundSource Input BoundExpr
    Tables Tables Tables Tables Tables tables_of_aggregate tables tables_of_source tables_of_input
    tables_of_expr x)

pub tables_of_aggregate_is : (x : BoundAggregate)
    → tables_of_aggregate x ≡ tables_of_aggregate_at (out-BoundAggregate x)
unfolding tables_of_aggregate tables tables_of_source tables_of_input tables_of_expr
    tables_of_aggregate_at
tables_of_aggregate_is =
    fold_out-BoundAggregate Tables Tables Tables Tables Tables aggregate_tables block_tables
    source_tables input_tables expr_tables

unfoldable pub tables_at : node.BoundBlock-F BoundAggregate BoundBlock BoundSource Input BoundExpr
    → Tables
tables_at x = block_tables
    (map-BoundBlock BoundAggregate BoundBlock BoundSource Input BoundExpr Tables Tables Tables
    Tables Tables tables_of_aggregate tables tables_of_source tables_of_input tables_of_expr x)

pub tables_is : (x : BoundBlock) → tables x ≡ tables_at (out-BoundBlock x)
unfolding tables_of_aggregate tables tables_of_source tables_of_input tables_of_expr tables_at
tables_is = fold_out-BoundBlock Tables Tables Tables Tables Tables aggregate_tables block_tables
    source_tables input_tables expr_tables

unfoldable pub tables_of_source_at : node.BoundSource-F BoundAggregate BoundBlock BoundSource Input
    BoundExpr → Tables
tables_of_source_at x = source_tables
    (map-BoundSource BoundAggregate BoundBlock BoundSource Input BoundExpr Tables Tables Tables
    Tables Tables tables_of_aggregate tables tables_of_source tables_of_input tables_of_expr x)

pub tables_of_source_is : (x : BoundSource)
    → tables_of_source x ≡ tables_of_source_at (out-BoundSource x)
unfolding tables_of_aggregate tables tables_of_source tables_of_input tables_of_expr
    tables_of_source_at
tables_of_source_is = fold_out-BoundSource Tables Tables Tables Tables Tables aggregate_tables
    block_tables source_tables input_tables expr_tables

unfoldable pub tables_of_input_at : node.Input-F BoundAggregate BoundBlock BoundSource Input
    BoundExpr → Tables
tables_of_input_at x = input_tables
    (map-Input BoundAggregate BoundBlock BoundSource Input BoundExpr Tables Tables Tables Tables
    Tables tables_of_aggregate tables tables_of_source tables_of_input tables_of_expr x)

pub tables_of_input_is : (x : Input) → tables_of_input x ≡ tables_of_input_at (out-Input x)
unfolding tables_of_aggregate tables tables_of_source tables_of_input tables_of_expr
    tables_of_input_at
tables_of_input_is = fold_out-Input Tables Tables Tables Tables Tables aggregate_tables block_tables
    source_tables input_tables expr_tables

unfoldable pub tables_of_expr_at : node.BoundExpr-F BoundAggregate BoundBlock BoundSource Input
    BoundExpr → Tables
tables_of_expr_at x = expr_tables
    (map-BoundExpr BoundAggregate BoundBlock BoundSource Input BoundExpr Tables Tables Tables Tables
    Tables tables_of_aggregate tables tables_of_source tables_of_input tables_of_expr x)

pub tables_of_expr_is : (x : BoundExpr) → tables_of_expr x ≡ tables_of_expr_at (out-BoundExpr x)
unfolding tables_of_aggregate tables tables_of_source tables_of_input tables_of_expr
    tables_of_expr_at
tables_of_expr_is = fold_out-BoundExpr Tables Tables Tables Tables Tables aggregate_tables
    block_tables source_tables input_tables expr_tables

pub in_Column : (level : ℕ) (place : ℕ)
    → tables_of_input (input.Column level place) ≡ input_tables (node.Column level place)
unfolding tables_of_input_at
in_Column level place = tables_of_input_is (input.Column level place)
    ∙ ap tables_of_input_at (input.outs-Column level place)

pub in_Exists : (q : BoundBlock)
    → tables_of_input (input.Exists q) ≡ input_tables (node.Exists (tables q))
unfolding tables_of_input_at
in_Exists q = tables_of_input_is (input.Exists q) ∙ ap tables_of_input_at (input.outs-Exists q)

pub in_Any : (c : Comparison) (e : BoundExpr) (q : BoundBlock)
    → tables_of_input (input.Any c e q) ≡ input_tables (node.Any c (tables_of_expr e) (tables q))
unfolding tables_of_input_at
in_Any c e q = tables_of_input_is (input.Any c e q) ∙ ap tables_of_input_at (input.outs-Any c e q)

pub in_Scalar : (q : BoundBlock)
    → tables_of_input (input.Scalar q) ≡ input_tables (node.Scalar (tables q))
unfolding tables_of_input_at
in_Scalar q = tables_of_input_is (input.Scalar q) ∙ ap tables_of_input_at (input.outs-Scalar q)

pub in_CountRows : tables_of_aggregate aggregate.CountRows ≡ aggregate_tables node.CountRows
unfolding tables_of_aggregate_at
in_CountRows = tables_of_aggregate_is aggregate.CountRows
    ∙ ap tables_of_aggregate_at aggregate.outs-CountRows

pub in_Of : (function : AggregateFunction) (scale : ℕ) (argument : BoundExpr)
    → tables_of_aggregate (aggregate.Of function scale argument)
    ≡ aggregate_tables (node.Of function scale (tables_of_expr argument))
unfolding tables_of_aggregate_at
in_Of function scale argument = tables_of_aggregate_is (aggregate.Of function scale argument)
    ∙ ap tables_of_aggregate_at (aggregate.outs-Of function scale argument)

pub of_Table : (t : TableName) → tables_of_source (source.Table t) ≡ source_tables (node.Table t)
unfolding tables_of_source_at
of_Table t = tables_of_source_is (source.Table t) ∙ ap tables_of_source_at (source.outs-Table t)

pub of_Derived : (kept : Option ℕ) (q : BoundBlock)
    → tables_of_source (source.Derived kept q) ≡ source_tables (node.Derived kept (tables q))
unfolding tables_of_source_at
of_Derived kept q = tables_of_source_is (source.Derived kept q)
    ∙ ap tables_of_source_at (source.outs-Derived kept q)

pub of_Lateral : (q : BoundBlock)
    → tables_of_source (source.Lateral q) ≡ source_tables (node.Lateral (tables q))
unfolding tables_of_source_at
of_Lateral q = tables_of_source_is (source.Lateral q)
    ∙ ap tables_of_source_at (source.outs-Lateral q)

pub of_Cross : (a : BoundSource) (b : BoundSource)
    → tables_of_source (source.Cross a b)
    ≡ source_tables (node.Cross (tables_of_source a) (tables_of_source b))
unfolding tables_of_source_at
of_Cross a b = tables_of_source_is (source.Cross a b)
    ∙ ap tables_of_source_at (source.outs-Cross a b)

pub of_Inner : (a : BoundSource) (b : BoundSource) (on : BoundExpr)
    → tables_of_source (source.Inner a b on)
    ≡ source_tables (node.Inner (tables_of_source a) (tables_of_source b) (tables_of_expr on))
unfolding tables_of_source_at
of_Inner a b on = tables_of_source_is (source.Inner a b on)
    ∙ ap tables_of_source_at (source.outs-Inner a b on)

pub of_Outer : (a : BoundSource) (b : BoundSource) (width : ℕ) (on : BoundExpr)
    → tables_of_source (source.Outer a b width on)
    ≡ source_tables (node.Outer (tables_of_source a) (tables_of_source b) width (tables_of_expr on))
unfolding tables_of_source_at
of_Outer a b width on = tables_of_source_is (source.Outer a b width on)
    ∙ ap tables_of_source_at (source.outs-Outer a b width on)

pub of_Plain : (from : BoundSource) (condition : BoundExpr) (list : List BoundExpr)
    → tables (block.Plain from condition list)
    ≡ block_tables (node.Plain (tables_of_source from) (tables_of_expr condition)
    (map tables_of_expr list))
unfolding tables_at
of_Plain from condition list = tables_is (block.Plain from condition list)
    ∙ ap tables_at (block.outs-Plain from condition list)

pub of_Grouped : (from : BoundSource) (condition : BoundExpr) (keys : List ℕ)
    (aggregates : List BoundAggregate) (having : BoundExpr) (list : List BoundExpr)
    → tables (block.Grouped from condition keys aggregates having list)
    ≡ block_tables (node.Grouped (tables_of_source from) (tables_of_expr condition) keys
    (map tables_of_aggregate aggregates) (tables_of_expr having) (map tables_of_expr list))
unfolding tables_at
of_Grouped from condition keys aggregates having list =
    tables_is (block.Grouped from condition keys aggregates having list)
    ∙ ap tables_at (block.outs-Grouped from condition keys aggregates having list)

pub of_Distinct : (q : BoundBlock)
    → tables (block.Distinct q) ≡ block_tables (node.Distinct (tables q))
unfolding tables_at
of_Distinct q = tables_is (block.Distinct q) ∙ ap tables_at (block.outs-Distinct q)

pub of_Set : (a b : BoundBlock) (columns : List SetColumn) (operation : SetOperation)
    → tables (block.Set a b columns operation)
    ≡ block_tables (node.Set (tables a) (tables b) columns operation)
unfolding tables_at
of_Set a b columns operation = tables_is (block.Set a b columns operation)
    ∙ ap tables_at (block.outs-Set a b columns operation)

pub expr_tables_is : (e : BoundExpr)
    → tables_of_expr e ≡ expr_tables
    (record {
      inputs = map tables_of_input (out-BoundExpr e).inputs;
      expr = (out-BoundExpr e).expr;
    })
unfolding tables_of_expr_at
expr_tables_is e = tables_of_expr_is e

pub ruleset tables_opened = (
  in_Column,
  in_Exists,
  in_Any,
  in_Scalar,
  in_CountRows,
  in_Of,
  of_Table,
  of_Derived,
  of_Lateral,
  of_Cross,
  of_Inner,
  of_Outer,
  of_Plain,
  of_Grouped,
  of_Distinct,
  of_Set,
  expr_tables_is,
)
