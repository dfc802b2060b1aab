-- The typing of a bound query at each node.
use Rattle.std.proofs.Common.{◌≡◌, ℕ, List, map, Option, ap, ◌∙◌}
use Rattle.expr_aggregates.specs.declared.function.AggregateFunction.{AggregateFunction}
use Rattle.base_set_rows.specs.declared.kind.SetOperation.{SetOperation}
use Rattle.expr_operators.specs.declared.operator.Comparison.{Comparison}
use Rattle.sql_bound_query.specs.declared.query.SetColumn.{SetColumn}
use Rattle.base_schema.specs.declared.table.TableName.{TableName}
use Rattle.sql_bound_query.specs.declared.query.BoundAggregate.{BoundAggregate, out-BoundAggregate}
use Rattle.sql_bound_query.specs.declared.query.BoundAggregate.TheVariants as aggregate
use Rattle.sql_bound_query.specs.declared.query.BoundAggregate.TheOpen as node
use Rattle.sql_bound_query.specs.declared.query.BoundAggregate.TheFolds.{fold_out-BoundAggregate}
use Rattle.sql_bound_query.specs.declared.query.BoundAggregate.TheFolds.{fold_out-BoundBlock}
use Rattle.sql_bound_query.specs.declared.query.BoundAggregate.TheFolds.{fold_out-BoundSource}
use Rattle.sql_bound_query.specs.declared.query.BoundAggregate.TheFolds.{fold_out-Input}
use Rattle.sql_bound_query.specs.declared.query.BoundAggregate.TheFolds.{fold_out-BoundExpr}
use Rattle.sql_bound_query.specs.declared.query.BoundAggregate.TheFolds.{map-BoundAggregate}
use Rattle.sql_bound_query.specs.declared.query.BoundAggregate.TheFolds.{map-BoundBlock}
use Rattle.sql_bound_query.specs.declared.query.BoundAggregate.TheFolds.{map-BoundSource, map-Input}
use Rattle.sql_bound_query.specs.declared.query.BoundAggregate.TheFolds.{map-BoundExpr}
use Rattle.sql_bound_query.specs.declared.query.BoundBlock.{BoundBlock, out-BoundBlock}
use Rattle.sql_bound_query.specs.declared.query.BoundBlock.TheVariants as block
use Rattle.sql_bound_query.specs.declared.query.BoundExpr.{BoundExpr, out-BoundExpr}
use Rattle.sql_bound_query.specs.declared.query.BoundSource.{BoundSource, out-BoundSource}
use Rattle.sql_bound_query.specs.declared.query.BoundSource.TheVariants as source
use Rattle.sql_bound_query.specs.declared.query.Input.{Input, out-Input}
use Rattle.sql_bound_query.specs.declared.query.Input.TheVariants as input
use Rattle.sql_bound_query.specs.Typing.{KindMeaning, KindsMeaning, FromKinds, ExprTyping}
use Rattle.sql_bound_query.specs.Typing.{aggregate_kind, query_kinds, source_kinds, input_kind}
use Rattle.sql_bound_query.specs.Typing.{expr_typing, kind_of_aggregate, block_kinds, from_kinds}
use Rattle.sql_bound_query.specs.Typing.{kind_of_input, typing_of}

unfoldable pub kind_of_aggregate_at : node.BoundAggregate-F BoundAggregate BoundBlock BoundSource
    Input BoundExpr → KindMeaning
kind_of_aggregate_at x =
    aggregate_kind (map-BoundAggregate BoundAggregate BoundBlock BoundSource Input BoundExpr
    KindMeaning KindsMeaning FromKinds KindMeaning ExprTyping kind_of_aggregate block_kinds
    from_kinds kind_of_input typing_of x)

pub kind_of_aggregate_is : (x : BoundAggregate)
    → kind_of_aggregate x ≡ kind_of_aggregate_at (out-BoundAggregate x)
unfolding kind_of_aggregate block_kinds from_kinds kind_of_input typing_of kind_of_aggregate_at
kind_of_aggregate_is = fold_out-BoundAggregate KindMeaning KindsMeaning FromKinds KindMeaning
    ExprTyping aggregate_kind query_kinds source_kinds input_kind expr_typing

unfoldable pub block_kinds_at : node.BoundBlock-F BoundAggregate BoundBlock BoundSource Input
    BoundExpr → KindsMeaning
block_kinds_at x = query_kinds
    (map-BoundBlock BoundAggregate BoundBlock BoundSource Input BoundExpr KindMeaning KindsMeaning
    FromKinds KindMeaning ExprTyping kind_of_aggregate block_kinds from_kinds kind_of_input
    typing_of x)

pub block_kinds_is : (x : BoundBlock) → block_kinds x ≡ block_kinds_at (out-BoundBlock x)
unfolding kind_of_aggregate block_kinds from_kinds kind_of_input typing_of block_kinds_at
block_kinds_is = fold_out-BoundBlock KindMeaning KindsMeaning FromKinds KindMeaning ExprTyping
    aggregate_kind query_kinds source_kinds input_kind expr_typing

unfoldable pub from_kinds_at : node.BoundSource-F BoundAggregate BoundBlock BoundSource Input
    BoundExpr → FromKinds
from_kinds_at x = source_kinds
    (map-BoundSource BoundAggregate BoundBlock BoundSource Input BoundExpr KindMeaning KindsMeaning
    FromKinds KindMeaning ExprTyping kind_of_aggregate block_kinds from_kinds kind_of_input
    typing_of x)

pub from_kinds_is : (x : BoundSource) → from_kinds x ≡ from_kinds_at (out-BoundSource x)
unfolding kind_of_aggregate block_kinds from_kinds kind_of_input typing_of from_kinds_at
from_kinds_is = fold_out-BoundSource KindMeaning KindsMeaning FromKinds KindMeaning ExprTyping
    aggregate_kind query_kinds source_kinds input_kind expr_typing

unfoldable pub kind_of_input_at : node.Input-F BoundAggregate BoundBlock BoundSource Input BoundExpr
    → KindMeaning
kind_of_input_at x = input_kind
    (map-Input BoundAggregate BoundBlock BoundSource Input BoundExpr KindMeaning KindsMeaning
    FromKinds KindMeaning ExprTyping kind_of_aggregate block_kinds from_kinds kind_of_input
    typing_of x)

pub kind_of_input_is : (x : Input) → kind_of_input x ≡ kind_of_input_at (out-Input x)
unfolding kind_of_aggregate block_kinds from_kinds kind_of_input typing_of kind_of_input_at
kind_of_input_is = fold_out-Input KindMeaning KindsMeaning FromKinds KindMeaning ExprTyping
    aggregate_kind query_kinds source_kinds input_kind expr_typing

unfoldable pub typing_of_at : node.BoundExpr-F BoundAggregate BoundBlock BoundSource Input BoundExpr
    → ExprTyping
typing_of_at x = expr_typing
    (map-BoundExpr BoundAggregate BoundBlock BoundSource Input BoundExpr KindMeaning KindsMeaning
    FromKinds KindMeaning ExprTyping kind_of_aggregate block_kinds from_kinds kind_of_input
    typing_of x)

pub typing_of_is : (x : BoundExpr) → typing_of x ≡ typing_of_at (out-BoundExpr x)
unfolding kind_of_aggregate block_kinds from_kinds kind_of_input typing_of typing_of_at
typing_of_is = fold_out-BoundExpr KindMeaning KindsMeaning FromKinds KindMeaning ExprTyping
    aggregate_kind query_kinds source_kinds input_kind expr_typing

pub kind_Column : (level : ℕ) (place : ℕ)
    → kind_of_input (input.Column level place) ≡ input_kind (node.Column level place)
unfolding kind_of_input_at
kind_Column level place = kind_of_input_is (input.Column level place)
    ∙ ap kind_of_input_at (input.outs-Column level place)

pub kind_Exists : (q : BoundBlock)
    → kind_of_input (input.Exists q) ≡ input_kind (node.Exists (block_kinds q))
unfolding kind_of_input_at
kind_Exists q = kind_of_input_is (input.Exists q) ∙ ap kind_of_input_at (input.outs-Exists q)

pub kind_Any : (c : Comparison) (e : BoundExpr) (q : BoundBlock)
    → kind_of_input (input.Any c e q) ≡ input_kind (node.Any c (typing_of e) (block_kinds q))
unfolding kind_of_input_at
kind_Any c e q = kind_of_input_is (input.Any c e q) ∙ ap kind_of_input_at (input.outs-Any c e q)

pub kind_Scalar : (q : BoundBlock)
    → kind_of_input (input.Scalar q) ≡ input_kind (node.Scalar (block_kinds q))
unfolding kind_of_input_at
kind_Scalar q = kind_of_input_is (input.Scalar q) ∙ ap kind_of_input_at (input.outs-Scalar q)

pub kind_CountRows : kind_of_aggregate aggregate.CountRows ≡ aggregate_kind node.CountRows
unfolding kind_of_aggregate_at
kind_CountRows = kind_of_aggregate_is aggregate.CountRows
    ∙ ap kind_of_aggregate_at aggregate.outs-CountRows

pub kind_Of : (function : AggregateFunction) (scale : ℕ) (argument : BoundExpr)
    → kind_of_aggregate (aggregate.Of function scale argument)
    ≡ aggregate_kind (node.Of function scale (typing_of argument))
unfolding kind_of_aggregate_at
kind_Of function scale argument = kind_of_aggregate_is (aggregate.Of function scale argument)
    ∙ ap kind_of_aggregate_at (aggregate.outs-Of function scale argument)

pub kinds_Table : (t : TableName) → from_kinds (source.Table t) ≡ source_kinds (node.Table t)
unfolding from_kinds_at
kinds_Table t = from_kinds_is (source.Table t) ∙ ap from_kinds_at (source.outs-Table t)

pub kinds_Derived : (kept : Option ℕ) (q : BoundBlock)
    → from_kinds (source.Derived kept q) ≡ source_kinds (node.Derived kept (block_kinds q))
unfolding from_kinds_at
kinds_Derived kept q =
    from_kinds_is (source.Derived kept q) ∙ ap from_kinds_at (source.outs-Derived kept q)

pub kinds_Lateral : (q : BoundBlock)
    → from_kinds (source.Lateral q) ≡ source_kinds (node.Lateral (block_kinds q))
unfolding from_kinds_at
kinds_Lateral q = from_kinds_is (source.Lateral q) ∙ ap from_kinds_at (source.outs-Lateral q)

pub kinds_Cross : (a : BoundSource) (b : BoundSource)
    → from_kinds (source.Cross a b) ≡ source_kinds (node.Cross (from_kinds a) (from_kinds b))
unfolding from_kinds_at
kinds_Cross a b = from_kinds_is (source.Cross a b) ∙ ap from_kinds_at (source.outs-Cross a b)

pub kinds_Inner : (a : BoundSource) (b : BoundSource) (on : BoundExpr)
    → from_kinds (source.Inner a b on)
    ≡ source_kinds (node.Inner (from_kinds a) (from_kinds b) (typing_of on))
unfolding from_kinds_at
kinds_Inner a b on = from_kinds_is (source.Inner a b on)
    ∙ ap from_kinds_at (source.outs-Inner a b on)

pub kinds_Outer : (a : BoundSource) (b : BoundSource) (width : ℕ) (on : BoundExpr)
    → from_kinds (source.Outer a b width on)
    ≡ source_kinds (node.Outer (from_kinds a) (from_kinds b) width (typing_of on))
unfolding from_kinds_at
kinds_Outer a b width on = from_kinds_is (source.Outer a b width on)
    ∙ ap from_kinds_at (source.outs-Outer a b width on)

pub kinds_Plain : (from : BoundSource) (condition : BoundExpr) (list : List BoundExpr)
    → block_kinds (block.Plain from condition list)
    ≡ query_kinds (node.Plain (from_kinds from) (typing_of condition) (map typing_of list))
unfolding block_kinds_at
kinds_Plain from condition list = block_kinds_is (block.Plain from condition list)
    ∙ ap block_kinds_at (block.outs-Plain from condition list)

pub kinds_Grouped : (from : BoundSource) (condition : BoundExpr) (keys : List ℕ)
    (aggregates : List BoundAggregate) (having : BoundExpr) (list : List BoundExpr)
    → block_kinds (block.Grouped from condition keys aggregates having list)
    ≡ query_kinds (node.Grouped (from_kinds from) (typing_of condition) keys
    (map kind_of_aggregate aggregates) (typing_of having) (map typing_of list))
unfolding block_kinds_at
kinds_Grouped from condition keys aggregates having list =
    block_kinds_is (block.Grouped from condition keys aggregates having list)
    ∙ ap block_kinds_at (block.outs-Grouped from condition keys aggregates having list)

pub kinds_Distinct : (q : BoundBlock)
    → block_kinds (block.Distinct q) ≡ query_kinds (node.Distinct (block_kinds q))
unfolding block_kinds_at
kinds_Distinct q = block_kinds_is (block.Distinct q) ∙ ap block_kinds_at (block.outs-Distinct q)

pub kinds_Set : (a b : BoundBlock) (columns : List SetColumn) (operation : SetOperation)
    → block_kinds (block.Set a b columns operation)
    ≡ query_kinds (node.Set (block_kinds a) (block_kinds b) columns operation)
unfolding block_kinds_at
kinds_Set a b columns operation = block_kinds_is (block.Set a b columns operation)
    ∙ ap block_kinds_at (block.outs-Set a b columns operation)

pub typing_is : (e : BoundExpr)
    → typing_of e ≡ expr_typing
    (record { inputs = map kind_of_input (out-BoundExpr e).inputs; expr = (out-BoundExpr e).expr })
unfolding typing_of_at
typing_is e = typing_of_is e

pub ruleset typing_opened = (
  kind_Column,
  kind_Exists,
  kind_Any,
  kind_Scalar,
  kind_CountRows,
  kind_Of,
  kinds_Table,
  kinds_Derived,
  kinds_Lateral,
  kinds_Cross,
  kinds_Inner,
  kinds_Outer,
  kinds_Plain,
  kinds_Grouped,
  kinds_Distinct,
  kinds_Set,
  typing_is,
)
