-- Queries of WITH: what their names stand for, what hides what, and what is refused first.
use Rattle.std.specs.Prelude.{◌≡◌, List, [], ◌∷◌, None, Ok, Err, codes}
use Rattle.sql_bound_query.specs.declared.query.BoundBlock.{BoundBlock}
use Rattle.sql_bound_query.specs.declared.query.BoundBlock.TheVariants as bound
use Rattle.sql_bound_query.specs.declared.query.BoundQuery.{BoundQuery}
use Rattle.sql_bound_query.specs.declared.query.BoundSource.{BoundSource}
use Rattle.sql_bound_query.specs.declared.query.BoundSource.TheVariants as source
use Rattle.sql_bound_query.specs.declared.query.Input.TheVariants as input
use Rattle.base_refusals.specs.declared.bind.BindRefusal.TheVariants.{UnknownTable, UnknownColumn}
use Rattle.base_refusals.specs.declared.bind.BindRefusal.TheVariants.{DuplicateAlias}
use Rattle.base_refusals.specs.declared.bind.BindRefusal.TheVariants.{SubqueryColumns}
use Rattle.base_refusals.specs.declared.bind.BindRefusal.TheVariants.{TooManyTables}
use Rattle.expr_scalar.specs.declared.expr.Expr.TheVariants as scalar
use Rattle.sql_ast.specs.declared.statement.Query.{Query}
use Rattle.sql_ast.specs.declared.statement.WithQuery.{WithQuery}
use Rattle.sql_ast.specs.declared.tree.Block.{Block}
use Rattle.base_schema.specs.declared.table.TableName.TheVariants as table
use Rattle.sql_binder_steps.specs.Steps.{Name}
use Rattle.sql_binder.specs.Binding.{bound_query}
use Rattle.sql_binder.specs.Examples.{named, item, from_table, select_from, Refuses, r_name}
use Rattle.sql_binder.specs.Examples.{view_of}
use Rattle.sql_binder.specs.EdgeCases.{closed, from_region}

-- name (columns) as (query)
abbrev pub with_listed : Name → List Name → Block → WithQuery
with_listed name columns q = record { name = name; columns = columns; block = q }

-- name as (query)
abbrev pub with_named : Name → Block → WithQuery
with_named name q = with_listed name [] q

-- with .. query
abbrev pub under : List WithQuery → Block → Query
under queries q = record {
  with_queries = queries;
  block = q;
  order = [];
  limit = None;
  version = None;
}

-- select r_name from ..
abbrev pub names_from : Name → Block
names_from table = select_from (item r_name ∷ []) (from_table table ∷ [])

-- select nope from region
abbrev pub nope_from_region : Block
nope_from_region = from_region (item (named (codes "nope")) ∷ [])

-- the first column of all rows of a source
abbrev pub first_column : BoundSource → BoundBlock
first_column rows = bound.Plain rows (closed (scalar.All []))
    (record { inputs = input.Column 0 0 ∷ []; expr = scalar.Column 0 } ∷ [])

-- region's names
abbrev pub bound_names : BoundBlock
bound_names = bound.Plain (source.Table table.Region) (closed (scalar.All []))
    (record { inputs = input.Column 0 1 ∷ []; expr = scalar.Column 0 } ∷ [])

-- a statement without order and limit
abbrev pub plainly : BoundBlock → BoundQuery
plainly q = record { block = q; order = []; limit = None }

-- A name stands for its own query, also in the queries of WITH after it; it hides a table and a
-- view; its columns have the names of its list. Each query of WITH counts its items by itself.
abbrev pub NamesOfWith : Type 0
NamesOfWith = (bound_query (under (with_named (codes "a") (names_from (codes "region"))
    ∷ with_named (codes "b") (names_from (codes "a")) ∷ []) (names_from (codes "b"))) []
    ≡ Ok (plainly (first_column (source.Derived None
    (first_column (source.Derived None bound_names))))))
    × (bound_query (under (with_named (codes "nation") (names_from (codes "region")) ∷ [])
    (names_from (codes "nation"))) []
    ≡ Ok (plainly (first_column (source.Derived None bound_names))))
    × (bound_query (under (with_named (codes "v") (names_from (codes "region")) ∷ [])
    (names_from (codes "v"))) (view_of 32 ∷ [])
    ≡ Ok (plainly (first_column (source.Derived None bound_names))))
    × (bound_query (under
    (with_listed (codes "a") (codes "n" ∷ []) (names_from (codes "region")) ∷ [])
    (select_from (item (named (codes "n")) ∷ []) (from_table (codes "a") ∷ []))) []
    ≡ Ok (plainly (first_column (source.Derived None bound_names))))
    × (bound_query (under (with_named (codes "a") (names_from (codes "v")) ∷ [])
    (names_from (codes "region"))) (view_of 31 ∷ [])
    ≡ Ok (plainly bound_names))

-- A name isn't seen by the queries before it, nor by its own; an equal name comes before what its
-- query is refused for, and the column list is as a view's. A use counts its query's items and
-- itself. What a query of WITH is refused for comes before all else.
abbrev pub RefusalsOfWith : Type 0
RefusalsOfWith = Refuses (under (with_named (codes "a") (names_from (codes "b"))
    ∷ with_named (codes "b") (names_from (codes "region")) ∷ []) (names_from (codes "a")))
    UnknownTable
    × Refuses (under (with_named (codes "a") (names_from (codes "a")) ∷ [])
    (names_from (codes "a"))) UnknownTable
    × Refuses (under (with_named (codes "a") (names_from (codes "region"))
    ∷ with_named (codes "a") nope_from_region ∷ []) (names_from (codes "a"))) DuplicateAlias
    × Refuses (under (with_listed (codes "a") (codes "m" ∷ codes "n" ∷ [])
    (names_from (codes "region")) ∷ []) (names_from (codes "a"))) SubqueryColumns
    × Refuses (under (with_listed (codes "a") (codes "n" ∷ codes "n" ∷ []) nope_from_region ∷ [])
    (names_from (codes "a"))) DuplicateAlias
    × (bound_query (under (with_named (codes "a") (names_from (codes "v")) ∷ [])
    (names_from (codes "a"))) (view_of 31 ∷ []) ≡ Err TooManyTables)
    × (bound_query (under (with_named (codes "a") (names_from (codes "v")) ∷ [])
    (names_from (codes "region"))) (view_of 32 ∷ []) ≡ Err TooManyTables)
    × Refuses (under (with_named (codes "a") nope_from_region ∷ [])
    (names_from (codes "nowhere"))) UnknownColumn
    × Refuses (under (with_named (codes "nation") (names_from (codes "region")) ∷ [])
    (select_from (item (named (codes "n_name")) ∷ []) (from_table (codes "nation") ∷ [])))
    UnknownColumn
