-- How much a query reads of tables, where no view is kept: each table that stands in it is read once.
use Rattle.std.specs.Prelude.{ℕ, List, [], ◌∷◌, ◌++◌, length}
use Rattle.std.specs.List.{flat_map}
use Rattle.base_row_laws.specs.Bags.{weigh}
use Rattle.base_schema.specs.declared.table.TableName.{TableName}
use Rattle.base_schema.specs.State.{State, table_rows}
use Rattle.sql_bound_query.specs.declared.query.BoundBlock.{BoundBlock}
use Rattle.sql_bound_query.specs.declared.query.BoundAggregate.TheOpen as node
use Rattle.sql_bound_query.specs.declared.query.BoundAggregate.TheFolds.{fold-BoundAggregate}
use Rattle.sql_bound_query.specs.declared.query.BoundAggregate.TheFolds.{fold-BoundBlock}
use Rattle.sql_bound_query.specs.declared.query.BoundAggregate.TheFolds.{fold-BoundSource}
use Rattle.sql_bound_query.specs.declared.query.BoundAggregate.TheFolds.{fold-Input}
use Rattle.sql_bound_query.specs.declared.query.BoundAggregate.TheFolds.{fold-BoundExpr}
use Rattle.sql_bound_query.specs.declared.query.BoundAggregate.{BoundAggregate}
use Rattle.sql_bound_query.specs.declared.query.BoundExpr.{BoundExpr}
use Rattle.sql_bound_query.specs.declared.query.BoundSource.{BoundSource}
use Rattle.sql_bound_query.specs.declared.query.Input.{Input}

-- the tables that stand in a part of a query
abbrev pub Tables : Type 0
Tables = List TableName

-- those of parts one after another
abbrev pub joined_tables : List Tables → Tables
joined_tables parts = flat_map (λ ts. ts) parts

-- of an input: those of its subquery, for ANY after those of its left side
abbrev pub input_tables : node.Input-F Tables Tables Tables Tables Tables → Tables
input_tables (node.Column level place) = []
input_tables (node.Exists q) = q
input_tables (node.Any c e q) = e ++ q
input_tables (node.Scalar q) = q

-- of an expression: those of its inputs
abbrev pub expr_tables : node.BoundExpr-F Tables Tables Tables Tables Tables → Tables
expr_tables e = joined_tables e.inputs

-- of an aggregate: those of its argument
abbrev pub aggregate_tables : node.BoundAggregate-F Tables Tables Tables Tables Tables → Tables
aggregate_tables node.CountRows = []
aggregate_tables (node.Of function scale argument) = argument

-- of a source: its table, or those of its parts
abbrev pub source_tables : node.BoundSource-F Tables Tables Tables Tables Tables → Tables
source_tables (node.Table t) = t ∷ []
source_tables (node.Derived kept q) = q
source_tables (node.Lateral q) = q
source_tables (node.Cross a b) = a ++ b
source_tables (node.Inner a b on) = a ++ b ++ on
source_tables (node.Outer a b width on) = a ++ b ++ on

-- of a query: those of its clauses
abbrev pub block_tables : node.BoundBlock-F Tables Tables Tables Tables Tables → Tables
block_tables (node.Plain from condition list) = from ++ condition ++ joined_tables list
block_tables (node.Grouped from condition keys aggregates having list) =
    from ++ condition ++ joined_tables aggregates ++ having ++ joined_tables list
block_tables (node.Distinct q) = q
block_tables (node.Set a b columns operation) = a ++ b

-- the tables that stand in a query, its subqueries, derived tables, lateral items and each use of a
-- view, each as
-- often as it does
unfoldable pub tables : BoundBlock → List TableName
tables = fold-BoundBlock Tables Tables Tables Tables Tables aggregate_tables block_tables
    source_tables input_tables expr_tables

-- those of a source
unfoldable pub tables_of_source : BoundSource → List TableName
tables_of_source = fold-BoundSource Tables Tables Tables Tables Tables aggregate_tables block_tables
    source_tables input_tables expr_tables

-- those of an input
unfoldable pub tables_of_input : Input → List TableName
tables_of_input = fold-Input Tables Tables Tables Tables Tables aggregate_tables block_tables
    source_tables input_tables expr_tables

-- those of an expression
unfoldable pub tables_of_expr : BoundExpr → List TableName
tables_of_expr = fold-BoundExpr Tables Tables Tables Tables Tables aggregate_tables block_tables
    source_tables input_tables expr_tables

-- those of an aggregate
unfoldable pub tables_of_aggregate : BoundAggregate → List TableName
tables_of_aggregate = fold-BoundAggregate Tables Tables Tables Tables Tables aggregate_tables
    block_tables source_tables input_tables expr_tables

-- how many rows a query reads in a state: of each table that stands in it all rows, once for each
-- time it does
unfoldable pub reads : BoundBlock → State → ℕ
reads q state = weigh (λ t. length (table_rows state t)) (tables q)
