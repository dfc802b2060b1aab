-- Queries bound by hand, and one case for each refusal.
use Rattle.std.specs.Prelude.{◌≡◌, ℕ, List, [], ◌∷◌, Some, None, Err, pos}
use Rattle.std.specs.Prelude.{codes, false}
use Rattle.sql_bound_query.specs.declared.query.BoundBlock.TheVariants as bound
use Rattle.sql_bound_query.specs.declared.query.BoundSource.TheVariants as source
use Rattle.base_refusals.specs.declared.bind.BindRefusal.{BindRefusal}
use Rattle.base_refusals.specs.declared.bind.BindRefusal.TheVariants.{UnknownTable, UnknownColumn}
use Rattle.base_refusals.specs.declared.bind.BindRefusal.TheVariants.{AmbiguousColumn}
use Rattle.base_refusals.specs.declared.bind.BindRefusal.TheVariants.{DuplicateAlias}
use Rattle.base_refusals.specs.declared.bind.BindRefusal.TheVariants.{TypeMismatch, NotGrouped}
use Rattle.base_refusals.specs.declared.bind.BindRefusal.TheVariants.{NestedAggregate}
use Rattle.base_refusals.specs.declared.bind.BindRefusal.TheVariants.{OuterAggregate}
use Rattle.base_refusals.specs.declared.bind.BindRefusal.TheVariants.{LateralReference}
use Rattle.base_refusals.specs.declared.bind.BindRefusal.TheVariants.{SubqueryColumns}
use Rattle.base_refusals.specs.declared.bind.BindRefusal.TheVariants.{ScaleTooWide}
use Rattle.base_refusals.specs.declared.bind.BindRefusal.TheVariants.{IntervalOnColumn}
use Rattle.base_refusals.specs.declared.bind.BindRefusal.TheVariants.{BadDate, DateRange}
use Rattle.base_refusals.specs.declared.bind.BindRefusal.TheVariants.{SubqueryPlace}
use Rattle.base_refusals.specs.declared.bind.BindRefusal.TheVariants.{TooManyTables}
use Rattle.expr_scalar.specs.declared.expr.Expr.TheVariants as scalar
use Rattle.expr_scalar.specs.declared.kind.Kind.TheVariants as kind
use Rattle.sql_ast.specs.declared.statement.Query.{Query}
use Rattle.sql_ast.specs.declared.tree.Block.{Block}
use Rattle.sql_ast.specs.declared.tree.Block.TheVariants as block
use Rattle.sql_ast.specs.declared.tree.Select.{roll-Select}
use Rattle.sql_ast.specs.declared.tree.Clause.TheVariants.{Absent, Condition}
use Rattle.sql_ast.specs.declared.tree.Expr.{Expr}
use Rattle.sql_ast.specs.declared.tree.Expr.TheVariants as e
use Rattle.sql_ast.specs.declared.tree.FromItem.TheVariants.{Table, Derived}
use Rattle.sql_ast.specs.declared.tree.Item.{Item}
use Rattle.sql_ast.specs.declared.tree.Joined.{Joined, roll-Joined}
use Rattle.sql_ast.specs.declared.tree.Selected.TheVariants.{Items}
use Rattle.sql_ast.specs.declared.tree.Term.{Term}
use Rattle.sql_ast.specs.declared.words.Adding.TheVariants.{Plus, Minus}
use Rattle.sql_ast.specs.declared.words.Aggregate.TheVariants.{Sum}
use Rattle.sql_ast.specs.declared.words.Multiplying.TheVariants.{Times}
use Rattle.sql_ast.specs.declared.words.Span.TheVariants.{Day}
use Rattle.base_schema.specs.declared.table.TableName.TheVariants as table
use Rattle.sql_binder_steps.specs.declared.view.View.{View}
use Rattle.sql_binder_steps.specs.Steps.{Name}
use Rattle.sql_binder.specs.Binding.{bound_query}

-- a bare name as a column
abbrev pub named : Name → Expr
named n = e.Column (record { item = None; name = n })

-- item.name as a column
abbrev pub of_item : Name → Name → Expr
of_item item n = e.Column (record { item = Some item; name = n })

-- a whole number
abbrev pub number : ℕ → Expr
number n = e.Number (pos n) 0

-- a + b
abbrev pub plus : Expr → Term
plus x = record { operator = Plus; value = x }

-- a - b
abbrev pub minus : Expr → Term
minus x = record { operator = Minus; value = x }

-- an item of a select list without an alias
abbrev pub item : Expr → Item
item x = record { value = x; alias = None }

-- a table or a view under its own name, alone between its commas
abbrev pub from_table : Name → Joined
from_table n = roll-Joined (record { first = Table n None; joins = [] })

-- a table or a view under an alias
abbrev pub from_alias : Name → Name → Joined
from_alias n alias = roll-Joined (record { first = Table n (Some alias); joins = [] })

-- a derived table
abbrev pub from_derived : Block → Name → Joined
from_derived q alias = roll-Joined (record { first = Derived q alias []; joins = [] })

-- select items from ..
abbrev pub select_from : List Item → List Joined → Block
select_from items from =
    block.Select (roll-Select (record {
      is_distinct = false;
      selected = Items items;
      from = from;
      condition = Absent;
      group = [];
      having = Absent;
    }))

-- select items from .. where ..
abbrev pub select_where : List Item → List Joined → Expr → Block
select_where items from x =
    block.Select (roll-Select (record {
      is_distinct = false;
      selected = Items items;
      from = from;
      condition = Condition x;
      group = [];
      having = Absent;
    }))

-- a statement without order and limit
abbrev pub statement : Block → Query
statement q = record {
  with_queries = [];
  block = q;
  order = [];
  limit = None;
  version = None;
}

-- one expression over region
abbrev pub over_region : Expr → Query
over_region x = statement (select_from (item x ∷ []) (from_table (codes "region") ∷ []))

-- it is refused for this cause, where there are no views
abbrev pub Refuses : Query → BindRefusal → Type 0
Refuses q why = bound_query q [] ≡ Err why

-- r_name
abbrev pub r_name : Expr
r_name = named (codes "r_name")

-- FROM names, columns, aliases, kinds, groups
abbrev pub FirstRefusals : Type 0
FirstRefusals = Refuses (statement
    (select_from (item r_name ∷ []) (from_table (codes "nowhere") ∷ []))) UnknownTable
    × Refuses (over_region (named (codes "x"))) UnknownColumn
    × Refuses (statement (select_from (item r_name ∷ [])
    (from_table (codes "region") ∷ from_alias (codes "region") (codes "b") ∷ []))) AmbiguousColumn
    × Refuses (statement (select_from (item (named (codes "n_name")) ∷ [])
    (from_table (codes "nation") ∷ from_table (codes "nation") ∷ []))) DuplicateAlias
    × Refuses (over_region (e.Sum r_name (plus (number 1) ∷ []))) TypeMismatch
    × Refuses (statement (select_from (item r_name ∷ item e.CountRows ∷ [])
    (from_table (codes "region") ∷ []))) NotGrouped
    × Refuses (over_region (e.Aggregate Sum (e.CountRows))) NestedAggregate

-- select sum(r_regionkey) from nation
abbrev pub outer_sum : Block
outer_sum = select_from (item (e.Aggregate Sum (named (codes "r_regionkey"))) ∷ [])
    (from_table (codes "nation") ∷ [])

-- select r_name from nation
abbrev pub name_of_region : Block
name_of_region = select_from (item r_name ∷ []) (from_table (codes "nation") ∷ [])

-- select r_name, r_name from region
abbrev pub two_names : Block
two_names = select_from (item r_name ∷ item r_name ∷ []) (from_table (codes "region") ∷ [])

-- a product of 10 and of 9 digits after the point
abbrev pub wide_product : Expr
wide_product = e.Product (e.Number (pos 1) 10)
    (record { operator = Times; value = e.Number (pos 1) 9 } ∷ [])

-- interval '1' day
abbrev pub one_day : Expr
one_day = e.Interval (codes "1") Day

-- a view of region's names whose query counts that number of FROM items
abbrev pub view_of : ℕ → View
view_of items = record {
  name = codes "v";
  columns = record { name = codes "r_name"; kind = kind.Text } ∷ [];
  block = bound.Plain (source.Table table.Region) (record { inputs = []; expr = scalar.All [] }) [];
  items = items;
  kept = None;
}

-- aggregates over outer columns, derived tables, subqueries, scales, dates, places, numbers of
-- tables
abbrev pub LaterRefusals : Type 0
LaterRefusals = Refuses (over_region (e.Scalar outer_sum)) OuterAggregate
    × Refuses (statement (select_from (item (number 1) ∷ [])
    (from_table (codes "region") ∷ from_derived name_of_region (codes "t") ∷ []))) LateralReference
    × Refuses (over_region (e.Scalar two_names)) SubqueryColumns
    × Refuses (over_region wide_product) ScaleTooWide
    × Refuses (over_region (e.Sum r_name (plus one_day ∷ []))) IntervalOnColumn
    × Refuses (over_region (e.Date (codes "1996-02-30"))) BadDate
    × Refuses (over_region (e.Sum (e.Date (codes "9999-12-31")) (plus one_day ∷ []))) DateRange
    × Refuses (over_region (e.Aggregate Sum (e.Scalar name_of_region))) SubqueryPlace
    × (bound_query (statement (select_from (item r_name ∷ []) (from_table (codes "v") ∷ [])))
    (view_of 32 ∷ []) ≡ Err TooManyTables)
