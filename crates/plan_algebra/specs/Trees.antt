-- What a dependent tree means: its rows by nested loops. What it scans, how many columns its rows
-- have, and how many right sides have a domain of their own are read off it too.
use Rattle.std.specs.Prelude.{ℕ, ◌+◌, ◌==◌, if◌then◌else◌, List, [], ◌∷◌, ◌++◌, map, ◌⊎◌}
use Rattle.std.proofs.Common.{inl, inr}
use Rattle.std.specs.Prelude.{length, replicate}
use Rattle.base_row_laws.specs.Ranked.{Ranked}
use Rattle.base_row_laws.specs.Rows.{after, columns, scanned}
use Rattle.base_row_laws.specs.Operators.{select, project, mark_of, scalar_of, join_loop}
use Rattle.base_row_laws.specs.Operators.{outer_loop}
use Rattle.base_row_laws.specs.Operators.{attach_loop, group_by, total, distinct}
use Rattle.base_set_rows.specs.declared.kind.SetOperation.{SetOperation}
use Rattle.base_set_rows.specs.SetOperations.{set_rows}
use Rattle.base_row_laws.specs.Trees.{side_row}
use Rattle.base_row_laws.specs.Trees.{Side as SideKind}
use Rattle.base_row_laws.specs.Trees.Side.{Closed as ClosedKind, Shared as SharedKind}
use Rattle.base_row_laws.specs.Trees.Side.{Dependent as DependentKind}
use Rattle.base_value.specs.declared.value.Value.{Value}
use Rattle.base_value.specs.declared.value.Value.TheVariants.{Null}
use Rattle.base_value.specs.Value.{same_value}
use Rattle.expr_scalar.specs.declared.expr.Expr.{Expr}
use Rattle.expr_scalar.specs.Meaning.{values}
use Rattle.base_schema.specs.declared.table.TableName.{TableName}
use Rattle.base_schema.specs.Kinds.{RowsAreOf}
use Rattle.base_schema.specs.State.{State, table_rows}
use Rattle.base_schema.specs.Tables.{kinds_of}
use Rattle.plan_algebra.specs.declared.aggregate.Aggregate.{Aggregate}
use Rattle.plan_algebra.specs.declared.kept_plan.KeptPlan.{KeptPlan}
use Rattle.plan_algebra.specs.declared.tree.DepTree.{DepTree, DepTree-F}
use Rattle.plan_algebra.specs.declared.tree.DepTree.TheFolds.{fold-DepTree}
use Rattle.plan_algebra.specs.declared.tree.DepTree.TheOpen.{Scan, Kept, Select, Project, Join, Outer}
use Rattle.plan_algebra.specs.declared.tree.DepTree.TheOpen.{Mark}
use Rattle.plan_algebra.specs.declared.tree.DepTree.TheOpen.{Single, Group, Distinct, Set}
use Rattle.plan_algebra.specs.declared.tree.Side.{Side}
use Rattle.plan_algebra.specs.declared.tree.Side.TheVariants.{Closed, Shared, Dependent}
use Rattle.expr_aggregates.specs.Values.{written, value_rank}
use Rattle.expr_conditions.specs.Ranks.{rank_of, says}
use Rattle.plan_algebra.specs.Aggregates.{aggregates_of}
use Rattle.plan_algebra.specs.KeptPlans.{query_rows}

-- the rows of each table
abbrev pub Database : Type 0
Database = TableName → List (List Value)

-- what is scanned: a table, or a kept view, by how many rows it has in a state
abbrev pub Occurrence : Type 0
Occurrence = TableName ⊎ (State → ℕ)

-- how many rows the kept view of a plan has in a state
abbrev pub kept_count : KeptPlan → State → ℕ
kept_count plan state = length (query_rows plan (table_rows state plan.table))

-- each table's rows are of its kinds
abbrev pub HasKinds : Database → Type 0
HasKinds db = (table : TableName) → RowsAreOf table (db table)

-- A right side as the laws have it. One that depends on no columns is closed.
abbrev pub side_of : Side → SideKind
side_of Closed = ClosedKind
side_of Shared = SharedKind
side_of (Dependent []) = ClosedKind
side_of (Dependent (c ∷ cs)) = DependentKind (c ∷ cs)

-- 1 for a right side with a domain of its own
abbrev pub own_domains : SideKind → ℕ
own_domains ClosedKind = 0
own_domains SharedKind = 0
own_domains (DependentKind cs) = 1

-- the domain row of a right side, under the domain row d and a left row of the values l
unfoldable pub right_row : Side → List Value → List Value → List Value
right_row side d l = side_row Null (side_of side) d l

-- a select list over a row under the domain row d
unfoldable pub listed : List Expr → List Value → List Value → List Value
listed es d row = values es (d ++ row)

-- the mark of a left row under the domain row d
unfoldable pub mark_under : Expr → List Value → List Value → List (Ranked Value) → Value
mark_under e d row partners = mark_of written (rank_of e) (d ++ row) partners

-- the value in column i of the one partner
unfoldable pub scalar_at : ℕ → List Value → List (Ranked Value) → Value
scalar_at i row partners = scalar_of written value_rank i partners

-- the values of the GROUP BY columns of a row under the domain row d
unfoldable pub keys_under : List ℕ → List Value → List Value → List Value
keys_under by d row = columns Null by (d ++ row)

-- the aggregates of rows under the domain row d
unfoldable pub aggregates_under : List Aggregate → List Value → List (Ranked Value) → List Value
aggregates_under aggregates d rows = aggregates_of aggregates (map (after d) rows)

-- GROUP BY under the domain row d; without columns one group of all rows, also where there are none
abbrev pub groups_under : List ℕ → List Aggregate → List Value → List (Ranked Value)
    → List (Ranked Value)
groups_under [] aggregates d rows = total (aggregates_under aggregates d) rows
groups_under (c ∷ cs) aggregates d rows =
    group_by same_value (keys_under (c ∷ cs) d) (aggregates_under aggregates d) rows

-- what a tree is
pub record TreeMeaning : Type 0 where
  pub scans : List Occurrence
  pub domains : ℕ
  pub width : ℕ
  pub rows : Database → List Value → List (Ranked Value)

-- an inner join of two meanings
abbrev pub joined : TreeMeaning → TreeMeaning → Side → Expr → TreeMeaning
joined l r side c = record {
  scans = l.scans ++ r.scans;
  domains = l.domains + r.domains + own_domains (side_of side);
  width = l.width + r.width;
  rows = λ db d. join_loop (says c d) (l.rows db d) (λ x. r.rows db (right_row side d x));
}

-- a left outer join of two meanings
abbrev pub outer_joined : TreeMeaning → TreeMeaning → Side → Expr → TreeMeaning
outer_joined l r side c = record {
  scans = l.scans ++ r.scans;
  domains = l.domains + r.domains + own_domains (side_of side);
  width = l.width + r.width;
  rows = λ db d. outer_loop (replicate r.width Null) (says c d) (l.rows db d)
      (λ x. r.rows db (right_row side d x));
}

-- one more column at the left rows: a value of each left row under d, and of the right rows under
-- it
abbrev pub attached : TreeMeaning → TreeMeaning → Side
    → (List Value → List Value → List (Ranked Value) → Value) → TreeMeaning
attached l r side value = record {
  scans = l.scans ++ r.scans;
  domains = l.domains + r.domains + own_domains (side_of side);
  width = l.width + 1;
  rows = λ db d. attach_loop (value d) (l.rows db d) (λ x. r.rows db (right_row side d x));
}

-- a set operation of two meanings, both under the domain row d
abbrev pub together : SetOperation → TreeMeaning → TreeMeaning → TreeMeaning
together operation l r = record {
  scans = l.scans ++ r.scans;
  domains = l.domains + r.domains;
  width = l.width;
  rows = λ db d. set_rows same_value operation (l.rows db d) (r.rows db d);
}

-- the same where both sides are of one width; sides of different widths mean the left one
abbrev pub combined : SetOperation → TreeMeaning → TreeMeaning → TreeMeaning
combined operation l r = if l.width == r.width then together operation l r else l

-- a node, from the meanings of its parts
abbrev pub tree_step : DepTree-F TreeMeaning → TreeMeaning
tree_step (Scan table) = record {
  scans = inl table ∷ [];
  domains = 0;
  width = length (kinds_of table);
  rows = λ db d. scanned (db table);
}
tree_step (Kept number plan) = record {
  scans = inr (kept_count plan) ∷ [];
  domains = 0;
  width = length plan.list;
  rows = λ db d. query_rows plan (db plan.table);
}
tree_step (Select t c) = record t { rows = λ db d. select (says c d) (t.rows db d) }
tree_step (Project t es) =
    record t { width = length es; rows = λ db d. project (listed es d) (t.rows db d) }
tree_step (Join l r side c) = joined l r side c
tree_step (Outer l r side c) = outer_joined l r side c
tree_step (Mark l r side c) = attached l r side (mark_under c)
tree_step (Single l r side i) = attached l r side (λ d. scalar_at i)
tree_step (Group t by aggregates) = record t {
  width = length by + length aggregates;
  rows = λ db d. groups_under by aggregates d (t.rows db d);
}
tree_step (Distinct t) = record t { rows = λ db d. distinct same_value (t.rows db d) }
tree_step (Set l r operation) = combined operation l r

-- a whole tree, node by node from its leaves
unfoldable pub tree_meaning : DepTree → TreeMeaning
tree_meaning = fold-DepTree TreeMeaning tree_step

-- the tables and kept views that a tree scans, from left to right
unfoldable pub scans_of : DepTree → List Occurrence
scans_of t = (tree_meaning t).scans

-- how many right sides of a tree have a domain of their own
unfoldable pub domains_of : DepTree → ℕ
domains_of t = (tree_meaning t).domains

-- how many columns the tree's rows have
unfoldable pub width_of : DepTree → ℕ
width_of t = (tree_meaning t).width

-- the tree's rows over a database by nested loops, under the domain row d: a right side is taken
-- anew under each left row
unfoldable pub tree_rows : DepTree → Database → List Value → List (Ranked Value)
tree_rows t db d = (tree_meaning t).rows db d
