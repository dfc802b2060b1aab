-- The columns of the rows around that a part of a query reads.
use Rattle.std.specs.Prelude.{ℕ, zero, suc, ◌==◌, Bool, false, ◌&&◌, ◌||◌, List, [], ◌∷◌}
use Rattle.std.specs.List.{list_any}
use Rattle.sql_bound_query.specs.declared.query.BoundAggregate.{BoundAggregate}
use Rattle.sql_bound_query.specs.declared.query.BoundAggregate.TheFolds.{fold-BoundAggregate}
use Rattle.sql_bound_query.specs.declared.query.BoundAggregate.TheFolds.{fold-BoundBlock}
use Rattle.sql_bound_query.specs.declared.query.BoundAggregate.TheFolds.{fold-BoundSource}
use Rattle.sql_bound_query.specs.declared.query.BoundAggregate.TheFolds.{fold-Input}
use Rattle.sql_bound_query.specs.declared.query.BoundAggregate.TheFolds.{fold-BoundExpr}
use Rattle.sql_bound_query.specs.declared.query.BoundAggregate.TheOpen as node
use Rattle.sql_bound_query.specs.declared.query.BoundBlock.{BoundBlock}
use Rattle.sql_bound_query.specs.declared.query.BoundExpr.{BoundExpr}
use Rattle.sql_bound_query.specs.declared.query.BoundSource.{BoundSource}
use Rattle.sql_bound_query.specs.declared.query.Input.{Input}
use Rattle.plan_dependent_nodes.specs.declared.sight.OuterColumn.{OuterColumn}

-- whether a column stands in a list: how many rows out its row is, and its place there
abbrev pub has : List OuterColumn → ℕ → ℕ → Bool
has outer level place =
    list_any (λ (c : OuterColumn). (c.level == level) && (c.place == place)) outer

-- whether a place stands in a list
abbrev pub has_place : List ℕ → ℕ → Bool
has_place places place = list_any (λ (i : ℕ). i == place) places

-- whether a part of a query reads the column at a place of the row n rows out
abbrev pub Seeks : Type 0
Seeks = ℕ → ℕ → Bool

-- whether one of some parts does
abbrev pub any_seeks : List Seeks → Seeks
any_seeks [] level place = false
any_seeks (part ∷ parts) level place = part level place || any_seeks parts level place

-- an input: its column, or what its parts read
abbrev pub input_seeks : node.Input-F Seeks Seeks Seeks Seeks Seeks → Seeks
input_seeks (node.Column out at) level place = (out == level) && (at == place)
input_seeks (node.Exists q) level place = q level place
input_seeks (node.Any c e q) level place = e level place || q level place
input_seeks (node.Scalar q) level place = q level place

-- an expression: what its inputs read
abbrev pub expr_seeks : node.BoundExpr-F Seeks Seeks Seeks Seeks Seeks → Seeks
expr_seeks e level place = any_seeks e.inputs level place

-- an aggregate: what its argument reads
abbrev pub aggregate_seeks : node.BoundAggregate-F Seeks Seeks Seeks Seeks Seeks → Seeks
aggregate_seeks node.CountRows level place = false
aggregate_seeks (node.Of function scale argument) level place = argument level place

-- A source: what its parts read, the row so far being 0 rows out. A lateral item's query has it as
-- its nearest row around. ON reads the source's own row in its place. A derived table reads no row
-- around.
abbrev pub source_seeks : node.BoundSource-F Seeks Seeks Seeks Seeks Seeks → Seeks
source_seeks (node.Table t) level place = false
source_seeks (node.Derived kept q) level place = false
source_seeks (node.Lateral q) level place = q level place
source_seeks (node.Cross a b) level place = a level place || b level place
source_seeks (node.Inner a b on) zero place = a 0 place || b 0 place
source_seeks (node.Inner a b on) (suc level) place =
    a (suc level) place || b (suc level) place || on (suc level) place
source_seeks (node.Outer a b width on) zero place = a 0 place || b 0 place
source_seeks (node.Outer a b width on) (suc level) place =
    a (suc level) place || b (suc level) place || on (suc level) place

-- a query: what its clauses read, whose nearest row is the query's own, or in FROM the row so far
abbrev pub block_seeks : node.BoundBlock-F Seeks Seeks Seeks Seeks Seeks → Seeks
block_seeks (node.Plain from condition list) level place =
    from (suc level) place || condition (suc level) place || any_seeks list (suc level) place
block_seeks (node.Grouped from condition keys aggregates having list) level place =
    from (suc level) place || condition (suc level) place || any_seeks aggregates (suc level) place
    || having (suc level) place || any_seeks list (suc level) place
block_seeks (node.Distinct q) level place = q level place
block_seeks (node.Set a b columns operation) level place = a level place || b level place

-- what a query reads of the rows around it, the nearest one being 0 rows out
unfoldable pub seeks_of : BoundBlock → Seeks
seeks_of = fold-BoundBlock Seeks Seeks Seeks Seeks Seeks aggregate_seeks block_seeks source_seeks
    input_seeks expr_seeks

-- what a source reads, the row so far being 0 rows out
unfoldable pub seeks_in_from : BoundSource → Seeks
seeks_in_from = fold-BoundSource Seeks Seeks Seeks Seeks Seeks aggregate_seeks block_seeks
    source_seeks input_seeks expr_seeks

-- what a source reads of the rows around its query, the nearest one being 0 rows out
unfoldable pub seeks_of_source : BoundSource → Seeks
seeks_of_source s level place = seeks_in_from s (suc level) place

-- whether a source reads the column at a place of the row so far
unfoldable pub seeks_so_far : BoundSource → ℕ → Bool
seeks_so_far s place = seeks_in_from s 0 place

-- what an input reads, the query's own row being 0 rows out
unfoldable pub seeks_of_input : Input → Seeks
seeks_of_input = fold-Input Seeks Seeks Seeks Seeks Seeks aggregate_seeks block_seeks source_seeks
    input_seeks expr_seeks

-- the same of an expression
unfoldable pub seeks_of_expr : BoundExpr → Seeks
seeks_of_expr = fold-BoundExpr Seeks Seeks Seeks Seeks Seeks aggregate_seeks block_seeks
    source_seeks input_seeks expr_seeks

-- the same of an aggregate
unfoldable pub seeks_of_aggregate : BoundAggregate → Seeks
seeks_of_aggregate = fold-BoundAggregate Seeks Seeks Seeks Seeks Seeks aggregate_seeks block_seeks
    source_seeks input_seeks expr_seeks
