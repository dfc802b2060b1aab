-- What each node of a bound query reads.
use Rattle.std.proofs.Common.{◌≡◌, ℕ, List, [], ◌∷◌, ◌++◌, map, Option, Some, true, false, refl, ap, ◌∙◌, inl, inr}
use Rattle.std.specs.Prelude.{if◌then◌else◌}
use Rattle.base_schema.specs.declared.table.TableName.{TableName}
use Rattle.base_set_rows.specs.declared.kind.SetOperation.{SetOperation}
use Rattle.expr_aggregates.specs.declared.function.AggregateFunction.{AggregateFunction}
use Rattle.expr_operators.specs.declared.operator.Comparison.{Comparison}
use Rattle.sql_bound_query.specs.declared.query.BoundAggregate.{BoundAggregate, out-BoundAggregate}
use Rattle.sql_bound_query.specs.declared.query.BoundAggregate.TheFolds.{fold_out-BoundAggregate, map-BoundAggregate}
use Rattle.sql_bound_query.specs.declared.query.BoundAggregate.TheFolds.{fold_out-BoundBlock, map-BoundBlock}
use Rattle.sql_bound_query.specs.declared.query.BoundAggregate.TheFolds.{fold_out-BoundExpr}
use Rattle.sql_bound_query.specs.declared.query.BoundAggregate.TheFolds.{fold_out-BoundSource, map-BoundSource}
use Rattle.sql_bound_query.specs.declared.query.BoundAggregate.TheFolds.{fold_out-Input, map-Input}
use Rattle.sql_bound_query.specs.declared.query.BoundAggregate.TheOpen as node
use Rattle.sql_bound_query.specs.declared.query.BoundAggregate.TheVariants as aggregate
use Rattle.sql_bound_query.specs.declared.query.BoundBlock.{BoundBlock, out-BoundBlock}
use Rattle.sql_bound_query.specs.declared.query.BoundBlock.TheVariants as block
use Rattle.sql_bound_query.specs.declared.query.BoundExpr.{BoundExpr, out-BoundExpr}
use Rattle.sql_bound_query.specs.declared.query.BoundSource.{BoundSource, out-BoundSource}
use Rattle.sql_bound_query.specs.declared.query.BoundSource.TheVariants as source
use Rattle.sql_bound_query.specs.declared.query.Input.{Input, out-Input}
use Rattle.sql_bound_query.specs.declared.query.Input.TheVariants as input
use Rattle.sql_bound_query.specs.declared.query.SetColumn.{SetColumn}
use Rattle.plan_kept_queries.specs.Forms.{is_kept_block}
use Rattle.plan_kept_queries.specs.Scans.{Of, Tables, aggregate_at, aggregate_step, aggregate_tables, block_at, block_step, block_tables, derived_tables, each_of, expr_step, expr_tables, input_at}
use Rattle.plan_kept_queries.specs.Scans.{input_step, input_tables, joined_tables, row_count, source_at, source_step, source_tables, tables, tables_of_aggregate, tables_of_expr, tables_of_input}
use Rattle.plan_kept_queries.specs.Scans.{tables_of_source}

each_same : {X : Type 0} (f : X → Of X) (xs : List X) → each_of (map f xs) xs ≡ map (λ x. f x x) xs
each_same f [] = refl
each_same f (x ∷ xs) = ap (λ l. f x x ∷ l) (each_same f xs)

-- each part, opened
abbrev input_parts : node.Input-F BoundAggregate BoundBlock BoundSource Input BoundExpr
    → node.Input-F (Of BoundAggregate) (Of BoundBlock) (Of BoundSource) (Of Input) (Of BoundExpr)
input_parts x = map-Input BoundAggregate BoundBlock BoundSource Input BoundExpr (Of BoundAggregate) (Of BoundBlock) (Of BoundSource) (Of Input) (Of BoundExpr)
    aggregate_tables block_tables source_tables input_tables expr_tables x

abbrev aggregate_parts : node.BoundAggregate-F BoundAggregate BoundBlock BoundSource Input BoundExpr
    → node.BoundAggregate-F (Of BoundAggregate) (Of BoundBlock) (Of BoundSource) (Of Input) (Of BoundExpr)
aggregate_parts x = map-BoundAggregate BoundAggregate BoundBlock BoundSource Input BoundExpr (Of BoundAggregate) (Of BoundBlock) (Of BoundSource) (Of Input) (Of BoundExpr)
    aggregate_tables block_tables source_tables input_tables expr_tables x

abbrev source_parts : node.BoundSource-F BoundAggregate BoundBlock BoundSource Input BoundExpr
    → node.BoundSource-F (Of BoundAggregate) (Of BoundBlock) (Of BoundSource) (Of Input) (Of BoundExpr)
source_parts x = map-BoundSource BoundAggregate BoundBlock BoundSource Input BoundExpr (Of BoundAggregate) (Of BoundBlock) (Of BoundSource) (Of Input) (Of BoundExpr)
    aggregate_tables block_tables source_tables input_tables expr_tables x

abbrev block_parts : node.BoundBlock-F BoundAggregate BoundBlock BoundSource Input BoundExpr
    → node.BoundBlock-F (Of BoundAggregate) (Of BoundBlock) (Of BoundSource) (Of Input) (Of BoundExpr)
block_parts x = map-BoundBlock BoundAggregate BoundBlock BoundSource Input BoundExpr (Of BoundAggregate) (Of BoundBlock) (Of BoundSource) (Of Input) (Of BoundExpr)
    aggregate_tables block_tables source_tables input_tables expr_tables x

input_is : (x : Input) → tables_of_input x ≡ input_at (input_parts (out-Input x)) (out-Input x)
unfolding tables_of_input
input_is x = ap (λ (f : Of Input). f x)
    (fold_out-Input (Of BoundAggregate) (Of BoundBlock) (Of BoundSource) (Of Input) (Of BoundExpr) aggregate_step block_step source_step input_step expr_step x)

aggregate_is : (x : BoundAggregate) → tables_of_aggregate x ≡ aggregate_at (aggregate_parts (out-BoundAggregate x)) (out-BoundAggregate x)
unfolding tables_of_aggregate
aggregate_is x = ap (λ (f : Of BoundAggregate). f x)
    (fold_out-BoundAggregate (Of BoundAggregate) (Of BoundBlock) (Of BoundSource) (Of Input) (Of BoundExpr) aggregate_step block_step source_step input_step expr_step x)

source_is : (x : BoundSource) → tables_of_source x ≡ source_at (source_parts (out-BoundSource x)) (out-BoundSource x)
unfolding tables_of_source
source_is x = ap (λ (f : Of BoundSource). f x)
    (fold_out-BoundSource (Of BoundAggregate) (Of BoundBlock) (Of BoundSource) (Of Input) (Of BoundExpr) aggregate_step block_step source_step input_step expr_step x)

block_is : (x : BoundBlock) → tables x ≡ block_at (block_parts (out-BoundBlock x)) (out-BoundBlock x)
unfolding tables
block_is x = ap (λ (f : Of BoundBlock). f x)
    (fold_out-BoundBlock (Of BoundAggregate) (Of BoundBlock) (Of BoundSource) (Of Input) (Of BoundExpr) aggregate_step block_step source_step input_step expr_step x)

pub expr_tables_is : (e : BoundExpr) → tables_of_expr e ≡ joined_tables (map tables_of_input (out-BoundExpr e).inputs)
unfolding tables_of_expr tables_of_input
expr_tables_is e = ap (λ (f : Of BoundExpr). f e)
    (fold_out-BoundExpr (Of BoundAggregate) (Of BoundBlock) (Of BoundSource) (Of Input) (Of BoundExpr) aggregate_step block_step source_step input_step expr_step e)
    ∙ ap joined_tables (each_same input_tables (out-BoundExpr e).inputs)

-- inputs
pub in_Column : (level place : ℕ) → tables_of_input (input.Column level place) ≡ []
in_Column level place = input_is (input.Column level place) ∙ ap (λ x. input_at (input_parts x) x) (input.outs-Column level place)

pub in_Exists : (q : BoundBlock) → tables_of_input (input.Exists q) ≡ tables q
unfolding tables
in_Exists q = input_is (input.Exists q) ∙ ap (λ x. input_at (input_parts x) x) (input.outs-Exists q)

pub in_Any : (c : Comparison) (e : BoundExpr) (q : BoundBlock) → tables_of_input (input.Any c e q) ≡ tables_of_expr e ++ tables q
unfolding tables tables_of_expr
in_Any c e q = input_is (input.Any c e q) ∙ ap (λ x. input_at (input_parts x) x) (input.outs-Any c e q)

pub in_Scalar : (q : BoundBlock) → tables_of_input (input.Scalar q) ≡ tables q
unfolding tables
in_Scalar q = input_is (input.Scalar q) ∙ ap (λ x. input_at (input_parts x) x) (input.outs-Scalar q)

-- aggregates
pub in_CountRows : tables_of_aggregate aggregate.CountRows ≡ []
in_CountRows = aggregate_is aggregate.CountRows ∙ ap (λ x. aggregate_at (aggregate_parts x) x) aggregate.outs-CountRows

pub in_Of : (function : AggregateFunction) (scale : ℕ) (argument : BoundExpr) → tables_of_aggregate (aggregate.Of function scale argument) ≡ tables_of_expr argument
unfolding tables_of_expr
in_Of function scale argument =
    aggregate_is (aggregate.Of function scale argument) ∙ ap (λ x. aggregate_at (aggregate_parts x) x) (aggregate.outs-Of function scale argument)

-- sources
pub of_Table : (t : TableName) → tables_of_source (source.Table t) ≡ inl t ∷ []
of_Table t = source_is (source.Table t) ∙ ap (λ x. source_at (source_parts x) x) (source.outs-Table t)

pub of_Derived : (kept : Option ℕ) (q : BoundBlock) → tables_of_source (source.Derived kept q) ≡ derived_tables kept q (tables q)
unfolding tables
of_Derived kept q = source_is (source.Derived kept q) ∙ ap (λ x. source_at (source_parts x) x) (source.outs-Derived kept q)

pub of_Lateral : (q : BoundBlock) → tables_of_source (source.Lateral q) ≡ tables q
unfolding tables
of_Lateral q = source_is (source.Lateral q) ∙ ap (λ x. source_at (source_parts x) x) (source.outs-Lateral q)

pub of_Cross : (a b : BoundSource) → tables_of_source (source.Cross a b) ≡ tables_of_source a ++ tables_of_source b
unfolding tables_of_source
of_Cross a b = source_is (source.Cross a b) ∙ ap (λ x. source_at (source_parts x) x) (source.outs-Cross a b)

pub of_Inner : (a b : BoundSource) (on : BoundExpr) → tables_of_source (source.Inner a b on) ≡ tables_of_source a ++ tables_of_source b ++ tables_of_expr on
unfolding tables_of_source tables_of_expr
of_Inner a b on = source_is (source.Inner a b on) ∙ ap (λ x. source_at (source_parts x) x) (source.outs-Inner a b on)

pub of_Outer : (a b : BoundSource) (width : ℕ) (on : BoundExpr) → tables_of_source (source.Outer a b width on) ≡ tables_of_source a ++ tables_of_source b ++ tables_of_expr on
unfolding tables_of_source tables_of_expr
of_Outer a b width on = source_is (source.Outer a b width on) ∙ ap (λ x. source_at (source_parts x) x) (source.outs-Outer a b width on)

-- queries
pub of_Plain : (from : BoundSource) (condition : BoundExpr) (list : List BoundExpr)
    → tables (block.Plain from condition list) ≡ tables_of_source from ++ tables_of_expr condition ++ joined_tables (map tables_of_expr list)
unfolding tables_of_source tables_of_expr
of_Plain from condition list =
    block_is (block.Plain from condition list) ∙ ap (λ x. block_at (block_parts x) x) (block.outs-Plain from condition list)
    ∙ ap (λ l. source_tables from from ++ expr_tables condition condition ++ joined_tables l) (each_same expr_tables list)

pub of_Grouped : (from : BoundSource) (condition : BoundExpr) (keys : List ℕ) (aggregates : List BoundAggregate) (having : BoundExpr) (list : List BoundExpr)
    → tables (block.Grouped from condition keys aggregates having list)
    ≡ tables_of_source from ++ tables_of_expr condition ++ joined_tables (map tables_of_aggregate aggregates) ++ tables_of_expr having ++ joined_tables (map tables_of_expr list)
unfolding tables_of_source tables_of_expr tables_of_aggregate
of_Grouped from condition keys aggregates having list =
    block_is (block.Grouped from condition keys aggregates having list)
    ∙ ap (λ x. block_at (block_parts x) x) (block.outs-Grouped from condition keys aggregates having list)
    ∙ ap (λ l. source_tables from from ++ expr_tables condition condition ++ joined_tables l ++ expr_tables having having ++ joined_tables (each_of (map expr_tables list) list))
    (each_same aggregate_tables aggregates)
    ∙ ap (λ l. source_tables from from ++ expr_tables condition condition ++ joined_tables (map (λ a. aggregate_tables a a) aggregates) ++ expr_tables having having ++ joined_tables l)
    (each_same expr_tables list)

pub of_Distinct : (q : BoundBlock) → tables (block.Distinct q) ≡ tables q
unfolding tables
of_Distinct q = block_is (block.Distinct q) ∙ ap (λ x. block_at (block_parts x) x) (block.outs-Distinct q)

pub of_Set : (a b : BoundBlock) (columns : List SetColumn) (operation : SetOperation) → tables (block.Set a b columns operation) ≡ tables a ++ tables b
unfolding tables
of_Set a b columns operation = block_is (block.Set a b columns operation) ∙ ap (λ x. block_at (block_parts x) x) (block.outs-Set a b columns operation)

pub ruleset tables_opened = (in_Column, in_Exists, in_Any, in_Scalar, in_CountRows, in_Of, of_Table, of_Derived, of_Lateral, of_Cross, of_Inner, of_Outer, of_Plain, of_Grouped, of_Distinct, of_Set, expr_tables_is)

-- a derived table that is a kept view, and one that is not, whatever number it has
pub derived_view : (number : ℕ) (q : BoundBlock) (own : Tables) → is_kept_block q ≡ true → derived_tables (Some number) q own ≡ inr (row_count q) ∷ []
derived_view number q own kept = ap (λ b. if b then inr (row_count q) ∷ [] else own) kept

pub derived_plain : (number : ℕ) (q : BoundBlock) (own : Tables) → is_kept_block q ≡ false → derived_tables (Some number) q own ≡ own
derived_plain number q own kept = ap (λ b. if b then inr (row_count q) ∷ [] else own) kept
