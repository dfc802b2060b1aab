-- What a query reads: the tables and the kept views that stand in it, and how many rows these have.
use Rattle.std.specs.Prelude.{◌≡◌, ℕ, List, [], ◌∷◌, ◌++◌, length}
use Rattle.std.specs.Prelude.{Option, Some, None, if◌then◌else◌}
use Rattle.std.specs.List.{flat_map}
use Rattle.std.proofs.Common.{inl, inr}
use Rattle.base_row_laws.specs.Bags.{weigh}
use Rattle.base_schema.specs.State.{State, table_rows}
use Rattle.plan_algebra.specs.Trees.{Occurrence}
use Rattle.sql_bound_query.specs.declared.query.BoundAggregate.{BoundAggregate, out-BoundAggregate}
use Rattle.sql_bound_query.specs.declared.query.BoundAggregate.TheOpen as node
use Rattle.sql_bound_query.specs.declared.query.BoundAggregate.TheFolds.{fold-BoundAggregate}
use Rattle.sql_bound_query.specs.declared.query.BoundAggregate.TheFolds.{fold-BoundBlock}
use Rattle.sql_bound_query.specs.declared.query.BoundAggregate.TheFolds.{fold-BoundExpr}
use Rattle.sql_bound_query.specs.declared.query.BoundAggregate.TheFolds.{fold-BoundSource}
use Rattle.sql_bound_query.specs.declared.query.BoundAggregate.TheFolds.{fold-Input}
use Rattle.sql_bound_query.specs.declared.query.BoundBlock.{BoundBlock, out-BoundBlock}
use Rattle.sql_bound_query.specs.declared.query.BoundBlock.TheVariants as block
use Rattle.sql_bound_query.specs.declared.query.BoundExpr.{BoundExpr, out-BoundExpr}
use Rattle.sql_bound_query.specs.declared.query.BoundSource.{BoundSource, out-BoundSource}
use Rattle.sql_bound_query.specs.declared.query.BoundSource.TheVariants as source
use Rattle.sql_bound_query.specs.declared.query.Input.{Input, out-Input}
use Rattle.base_schema.specs.declared.table.TableName.TheVariants.{Orders}
use Rattle.sql_bound_query.specs.declared.query.BoundAggregate.TheVariants.{CountRows}
use Rattle.sql_bound_query.specs.Examples.{always, at, count_for_null_of, small}
use Rattle.sql_bound_query.specs.Meaning.{rows}
use Rattle.plan_kept_queries.specs.Forms.{is_kept_block}

-- the tables and kept views that stand in a part of a query
abbrev pub Tables : Type 0
Tables = List Occurrence

-- those of parts one after another
abbrev pub joined_tables : List Tables → Tables
joined_tables parts = flat_map (λ ts. ts) parts

-- how many rows a query by itself has in a state
abbrev pub row_count : BoundBlock → State → ℕ
row_count q state = length (rows q [] state)

-- Of a derived table that is the kept view of a number: that view, and none of its query's tables.
-- A query whose rows can't be kept is one like others, whatever number it has.
abbrev pub derived_tables : Option ℕ → BoundBlock → Tables → Tables
derived_tables None q own = own
derived_tables (Some number) q own =
    if is_kept_block q then inr (row_count q) ∷ [] else own

-- Below each part is a function of what it is and gives its tables, so that a derived table knows
-- its query.
abbrev pub Of : Type 0 → Type 0
Of X = X → Tables

-- of each of some parts
abbrev pub each_of : {X : Type 0} → List (Of X) → List X → List Tables
each_of [] xs = []
each_of (f ∷ fs) [] = []
each_of (f ∷ fs) (x ∷ xs) = f x ∷ each_of fs xs

-- of an input: those of its subquery, for ANY after those of its left side
abbrev pub input_at :
    node.Input-F (Of BoundAggregate) (Of BoundBlock) (Of BoundSource) (Of Input) (Of BoundExpr)
    → node.Input-F BoundAggregate BoundBlock BoundSource Input BoundExpr → Tables
input_at (node.Exists f) (node.Exists q) = f q
input_at (node.Any c g f) (node.Any d e q) = g e ++ f q
input_at (node.Scalar f) (node.Scalar q) = f q
input_at other i = []

-- of an aggregate: those of its argument
abbrev pub aggregate_at :
    node.BoundAggregate-F (Of BoundAggregate) (Of BoundBlock) (Of BoundSource) (Of Input)
    (Of BoundExpr)
    → node.BoundAggregate-F BoundAggregate BoundBlock BoundSource Input BoundExpr → Tables
aggregate_at (node.Of function scale f) (node.Of other size e) = f e
aggregate_at other a = []

-- of a source: its table, or those of its parts
abbrev pub source_at :
    node.BoundSource-F (Of BoundAggregate) (Of BoundBlock) (Of BoundSource) (Of Input)
    (Of BoundExpr)
    → node.BoundSource-F BoundAggregate BoundBlock BoundSource Input BoundExpr → Tables
source_at (node.Table t) s = inl t ∷ []
source_at (node.Derived kept f) (node.Derived same q) = derived_tables kept q (f q)
source_at (node.Lateral f) (node.Lateral q) = f q
source_at (node.Cross f g) (node.Cross a b) = f a ++ g b
source_at (node.Inner f g h) (node.Inner a b on) = f a ++ g b ++ h on
source_at (node.Outer f g width h) (node.Outer a b same on) = f a ++ g b ++ h on
source_at other s = []

-- of a query: those of its clauses
abbrev pub block_at :
    node.BoundBlock-F (Of BoundAggregate) (Of BoundBlock) (Of BoundSource) (Of Input) (Of BoundExpr)
    → node.BoundBlock-F BoundAggregate BoundBlock BoundSource Input BoundExpr → Tables
block_at (node.Plain f c fs) (node.Plain from condition list) =
    f from ++ c condition ++ joined_tables (each_of fs list)
block_at (node.Grouped f c keys as' h fs) (node.Grouped from condition by aggregates having list) =
    f from ++ c condition ++ joined_tables (each_of as' aggregates) ++ h having
    ++ joined_tables (each_of fs list)
block_at (node.Distinct f) (node.Distinct q) = f q
block_at (node.Set f g columns operation) (node.Set a b same other) = f a ++ g b
block_at other q = []

-- each part, with what it is
abbrev pub aggregate_step :
    node.BoundAggregate-F (Of BoundAggregate) (Of BoundBlock) (Of BoundSource) (Of Input)
    (Of BoundExpr) → Of BoundAggregate
aggregate_step f a = aggregate_at f (out-BoundAggregate a)

abbrev pub block_step :
    node.BoundBlock-F (Of BoundAggregate) (Of BoundBlock) (Of BoundSource) (Of Input) (Of BoundExpr)
    → Of BoundBlock
block_step f q = block_at f (out-BoundBlock q)

abbrev pub source_step :
    node.BoundSource-F (Of BoundAggregate) (Of BoundBlock) (Of BoundSource) (Of Input)
    (Of BoundExpr) → Of BoundSource
source_step f s = source_at f (out-BoundSource s)

abbrev pub input_step :
    node.Input-F (Of BoundAggregate) (Of BoundBlock) (Of BoundSource) (Of Input) (Of BoundExpr)
    → Of Input
input_step f i = input_at f (out-Input i)

-- of an expression: those of its inputs
abbrev pub expr_step :
    node.BoundExpr-F (Of BoundAggregate) (Of BoundBlock) (Of BoundSource) (Of Input) (Of BoundExpr)
    → Of BoundExpr
expr_step f e = joined_tables (each_of f.inputs (out-BoundExpr e).inputs)

abbrev pub aggregate_tables : BoundAggregate → Of BoundAggregate
aggregate_tables =
    fold-BoundAggregate (Of BoundAggregate) (Of BoundBlock) (Of BoundSource) (Of Input)
    (Of BoundExpr) aggregate_step block_step source_step input_step expr_step

abbrev pub block_tables : BoundBlock → Of BoundBlock
block_tables =
    fold-BoundBlock (Of BoundAggregate) (Of BoundBlock) (Of BoundSource) (Of Input) (Of BoundExpr)
    aggregate_step block_step source_step input_step expr_step

abbrev pub source_tables : BoundSource → Of BoundSource
source_tables =
    fold-BoundSource (Of BoundAggregate) (Of BoundBlock) (Of BoundSource) (Of Input) (Of BoundExpr)
    aggregate_step block_step source_step input_step expr_step

abbrev pub input_tables : Input → Of Input
input_tables =
    fold-Input (Of BoundAggregate) (Of BoundBlock) (Of BoundSource) (Of Input) (Of BoundExpr)
    aggregate_step block_step source_step input_step expr_step

abbrev pub expr_tables : BoundExpr → Of BoundExpr
expr_tables =
    fold-BoundExpr (Of BoundAggregate) (Of BoundBlock) (Of BoundSource) (Of Input) (Of BoundExpr)
    aggregate_step block_step source_step input_step expr_step

-- the tables and kept views that stand in a query, its subqueries, derived tables, lateral items and
-- each use of a view that is not kept, each as often as it does
unfoldable pub tables : BoundBlock → Tables
tables q = block_tables q q

-- those of a source
unfoldable pub tables_of_source : BoundSource → Tables
tables_of_source s = source_tables s s

-- those of an input
unfoldable pub tables_of_input : Input → Tables
tables_of_input i = input_tables i i

-- those of an expression
unfoldable pub tables_of_expr : BoundExpr → Tables
tables_of_expr e = expr_tables e e

-- those of an aggregate
unfoldable pub tables_of_aggregate : BoundAggregate → Tables
tables_of_aggregate a = aggregate_tables a a

-- how many rows a table or a kept view has in a state
abbrev pub rows_in : State → Occurrence → ℕ
rows_in state (inl t) = length (table_rows state t)
rows_in state (inr count) = count state

-- how many rows a query reads in a state: of each table and each kept view that stands in it all
-- rows, once for each time it does
unfoldable pub reads : BoundBlock → State → ℕ
reads q state = weigh (rows_in state) (tables q)

-- select o_custkey from (select o_custkey, count(*) from orders group by o_custkey) as t, where (..)
-- is the kept view of a number or none
abbrev pub orders_by_customer_of : Option ℕ → BoundBlock
orders_by_customer_of kept =
    block.Plain (source.Derived kept
    (block.Grouped (source.Table Orders) always (1 ∷ []) (CountRows ∷ []) always (at 0 ∷ at 1 ∷ [])))
    always (at 0 ∷ [])

-- A join is read by its tables, whatever number it has. The orders of each customer are read by the
-- groups, of which there is one, where they are a kept view, and else by the table of two orders.
abbrev pub ReadCases : Type 0
ReadCases = (reads (count_for_null_of None) small ≡ 6)
    × (reads (count_for_null_of (Some 1)) small ≡ 6)
    × (reads (orders_by_customer_of None) small ≡ 2)
    × (reads (orders_by_customer_of (Some 0)) small ≡ 1)
