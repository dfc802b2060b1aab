-- What it is for a dependent tree to be that of a query, alone or inside others.
use Rattle.std.specs.Prelude.{◌≡◌, List, map}
use Rattle.base_value.specs.declared.value.Value.{Value}
use Rattle.base_schema.specs.State.{State, table_rows}
use Rattle.sql_bound_query.specs.declared.query.BoundBlock.{BoundBlock}
use Rattle.sql_bound_query.specs.Meaning.{Env, column, rows}
use Rattle.plan_kept_queries.specs.Scans.{tables}
use Rattle.sql_bound_query.specs.Typing.{StateIsOf}
use Rattle.plan_algebra.specs.declared.tree.DepTree.{DepTree}
use Rattle.plan_algebra.specs.Trees.{tree_rows, scans_of}
use Rattle.plan_dependent_nodes.specs.declared.sight.OuterColumn.{OuterColumn}

-- The list of rows around a query as one flat row, the domain row: the values of these columns of
-- theirs.
abbrev pub domain_row : List OuterColumn → Env → List Value
domain_row outer env = map (λ (c : OuterColumn). column env c.level c.place) outer

-- The tree of a query that reads these columns of the rows around it:
-- over tables of their kinds and under all rows around, its rows over the domain row are the
-- query's, in the query's order; it scans each table occurrence of the query once.
pub record IsTreeOf (q : BoundBlock) (outer : List OuterColumn) (tree : DepTree) : Type 0 where
  pub rows : (state : State) → StateIsOf state → (env : Env)
      → tree_rows tree (table_rows state) (domain_row outer env) ≡ rows q env state
  pub scans : scans_of tree ≡ tables q
