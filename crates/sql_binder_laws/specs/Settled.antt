-- What the order of binding settles, one small query each.
use Rattle.std.specs.Prelude.{◌≡◌, List, [], ◌∷◌, Some, None, Ok, Err, pos, codes, false}
use Rattle.sql_bound_query.specs.declared.query.BoundBlock.{BoundBlock}
use Rattle.sql_bound_query.specs.declared.query.BoundBlock.TheVariants as bound
use Rattle.sql_bound_query.specs.declared.query.BoundExpr.{BoundExpr}
use Rattle.sql_bound_query.specs.declared.query.BoundSource.TheVariants as source
use Rattle.sql_bound_query.specs.declared.query.Input.TheVariants as input
use Rattle.base_refusals.specs.declared.bind.BindRefusal.TheVariants.{UnknownTable, UnknownColumn}
use Rattle.base_refusals.specs.declared.bind.BindRefusal.TheVariants.{AmbiguousColumn}
use Rattle.base_refusals.specs.declared.bind.BindRefusal.TheVariants.{DuplicateAlias}
use Rattle.base_refusals.specs.declared.bind.BindRefusal.TheVariants.{TypeMismatch, NotGrouped}
use Rattle.base_refusals.specs.declared.bind.BindRefusal.TheVariants.{NestedAggregate}
use Rattle.base_refusals.specs.declared.bind.BindRefusal.TheVariants.{LateralReference}
use Rattle.base_refusals.specs.declared.bind.BindRefusal.TheVariants.{SubqueryColumns}
use Rattle.base_refusals.specs.declared.bind.BindRefusal.TheVariants.{SubqueryPlace}
use Rattle.base_refusals.specs.declared.bind.BindRefusal.TheVariants.{TooManyTables}
use Rattle.expr_operators.specs.declared.operator.Comparison.TheVariants as operator
use Rattle.expr_scalar.specs.declared.expr.Expr.TheVariants as scalar
use Rattle.sql_ast.specs.declared.statement.Query.{Query}
use Rattle.sql_ast.specs.declared.tree.Block.{Block}
use Rattle.sql_ast.specs.declared.tree.Expr.{Expr}
use Rattle.sql_ast.specs.declared.tree.Expr.TheVariants as e
use Rattle.sql_ast.specs.declared.tree.FromItem.TheVariants.{Table, Derived}
use Rattle.sql_ast.specs.declared.tree.Item.{Item}
use Rattle.sql_ast.specs.declared.tree.Joined.{Joined, roll-Joined}
use Rattle.sql_ast.specs.declared.tree.Selected.TheVariants.{Items}
use Rattle.sql_ast.specs.declared.words.Aggregate.TheVariants.{Sum, Avg}
use Rattle.base_value.specs.declared.value.Value.TheVariants as value
use Rattle.base_schema.specs.declared.table.TableName.TheVariants as table
use Rattle.sql_binder_steps.specs.Steps.{Name}
use Rattle.sql_binder.specs.Binding.{bound_query}
use Rattle.sql_binder.specs.Examples.{named, of_item, number, plus, item, from_table, from_alias}
use Rattle.sql_binder.specs.Examples.{from_derived, select_from, select_where, statement}
use Rattle.sql_binder.specs.Examples.{over_region, Refuses, r_name, name_of_region, two_names}
use Rattle.sql_binder.specs.Examples.{view_of}
use Rattle.sql_binder.specs.EdgeCases.{closed, equal, grouped_by, from_region, having_where}
use Rattle.sql_binder.specs.EdgeCases.{is_africa, join_on}

-- a name that no query has
abbrev pub nope : Expr
nope = named (codes "nope")

-- an item of a select list with an alias
abbrev pub with_alias : Expr → Name → Item
with_alias x name = record { value = x; alias = Some name }

-- a derived table with a column list
abbrev pub from_listed : Block → Name → List Name → Joined
from_listed q alias names = roll-Joined (record { first = Derived q alias names; joins = [] })

-- select 1 from ..
abbrev pub one_from : List Joined → Query
one_from from = statement (select_from (item (number 1) ∷ []) from)

-- select r_name from region
abbrev pub names_of_regions : Block
names_of_regions = from_region (item r_name ∷ [])

-- region join nation on ..
abbrev pub joined_on : Expr → Joined
joined_on x = roll-Joined (record {
  first = Table (codes "region") None;
  joins = join_on (codes "nation") x ∷ [];
})

-- An item of FROM: its table before the number of items; a derived table's own item before its
-- query, then its alias, the names of its column list, and their number.
abbrev pub ItemsOfFrom : Type 0
ItemsOfFrom = (bound_query (one_from (from_table (codes "v") ∷ from_table (codes "nowhere") ∷ []))
    (view_of 31 ∷ []) ≡ Err UnknownTable)
    × (bound_query (one_from
    (from_table (codes "v") ∷ from_derived (from_region (item nope ∷ [])) (codes "t") ∷ []))
    (view_of 31 ∷ []) ≡ Err TooManyTables)
    × Refuses (one_from (from_table (codes "region")
    ∷ from_listed names_of_regions (codes "region") (codes "a" ∷ codes "b" ∷ []) ∷ []))
    DuplicateAlias
    × Refuses (one_from
    (from_listed names_of_regions (codes "t") (codes "a" ∷ codes "a" ∷ []) ∷ [])) DuplicateAlias
    × Refuses (one_from
    (from_listed names_of_regions (codes "t") (codes "a" ∷ codes "b" ∷ []) ∷ [])) SubqueryColumns
    × Refuses (one_from
    (from_listed (from_region (item nope ∷ [])) (codes "t") (codes "a" ∷ codes "a" ∷ []) ∷ []))
    UnknownColumn

-- select 1 from region where ..
abbrev pub region_where : Expr → Query
region_where x = statement
    (select_where (item (number 1) ∷ []) (from_table (codes "region") ∷ []) x)

-- A value is no condition: in WHERE, ON, NOT, AND, OR and CASE; and a text is no number, nor has it
-- a place 0.
abbrev pub ValuesAsConditions : Type 0
ValuesAsConditions = Refuses (region_where r_name) TypeMismatch
    × Refuses (one_from (joined_on (number 1) ∷ [])) TypeMismatch
    × Refuses (region_where (e.Not r_name)) TypeMismatch
    × Refuses (region_where (e.And is_africa (r_name ∷ []))) TypeMismatch
    × Refuses (region_where (e.Or r_name (is_africa ∷ []))) TypeMismatch
    × Refuses (over_region (e.Case (record { condition = r_name; value = number 1 } ∷ [])))
    TypeMismatch
    × Refuses (over_region (e.Aggregate Avg r_name)) TypeMismatch
    × Refuses (over_region (e.Substring r_name 0 2)) TypeMismatch

-- sum(case when .. then 1 end)
abbrev pub ones_where : Expr → Expr
ones_where x = e.Aggregate Sum (e.Case (record { condition = x; value = number 1 } ∷ []))

-- IN: its left side, its query, the query's columns, the kinds; then whether a subquery may stand
-- there, as in ON it may and in an aggregate's argument it may not. A condition is no operand of
-- IN.
abbrev pub OrderOfIn : Type 0
OrderOfIn = Refuses (over_region (e.InQuery nope two_names)) UnknownColumn
    × Refuses (over_region (e.InQuery (e.Sum r_name (plus (number 1) ∷ [])) two_names)) TypeMismatch
    × Refuses (over_region (e.InQuery (number 1) two_names)) SubqueryColumns
    × Refuses (over_region (e.InQuery (number 1) names_of_regions)) TypeMismatch
    × Refuses (one_from (joined_on (e.InQuery (number 1) names_of_regions) ∷ [])) TypeMismatch
    × Refuses (one_from (joined_on (e.InQuery r_name two_names) ∷ [])) SubqueryColumns
    × Refuses (over_region (ones_where (e.InQuery (number 1) names_of_regions))) TypeMismatch
    × Refuses (over_region (ones_where (e.InQuery r_name names_of_regions))) SubqueryPlace
    × Refuses (over_region (e.InList (number 1) (number 2 ∷ r_name ∷ []))) TypeMismatch
    × Refuses (over_region (e.InList is_africa (number 1 ∷ []))) TypeMismatch
    × Refuses (over_region (e.InList (number 1) (is_africa ∷ []))) TypeMismatch
    × Refuses (over_region (e.InQuery is_africa names_of_regions)) TypeMismatch

-- BETWEEN binds all its operands before it tests them, CASE its conditions before its branches.
abbrev pub OperandsFirst : Type 0
OperandsFirst = Refuses (over_region (e.Between (number 1) r_name nope)) UnknownColumn
    × Refuses (over_region (e.Case
    (record { condition = is_africa; value = e.Sum r_name (plus (number 1) ∷ []) }
    ∷ record { condition = nope; value = number 1 } ∷ []))) UnknownColumn
    × Refuses (over_region (e.Case
    (record { condition = is_africa; value = number 1 }
    ∷ record { condition = is_africa; value = r_name } ∷ []))) TypeMismatch

-- select 1 from (select r_name from nation) as t
abbrev pub one_from_derived : Block
one_from_derived = select_from (item (number 1) ∷ []) (from_derived name_of_region (codes "t") ∷ [])

-- An unqualified name goes further out where the inner query lacks it; a qualified one stops at the
-- query with an item of that name, hidden ones too. Two columns come before NotGrouped. A derived
-- table in a subquery uses no name of the query around that.
abbrev pub NamesFurtherOut : Type 0
NamesFurtherOut = (bound_query (over_region (e.Scalar name_of_region)) []
    ≡ Ok (record {
      block = bound.Plain (source.Table table.Region) (closed (scalar.All []))
          (record {
            inputs = input.Scalar (bound.Plain (source.Table table.Nation) (closed (scalar.All []))
                (record { inputs = input.Column 1 1 ∷ []; expr = scalar.Column 0 } ∷ [])) ∷ [];
            expr = scalar.Column 0;
          } ∷ []);
      order = [];
      limit = None;
    }))
    × Refuses (one_from (from_table (codes "region")
    ∷ from_derived
    (select_from (item (of_item (codes "region") (codes "n_name")) ∷ [])
    (from_table (codes "nation") ∷ [])) (codes "t") ∷ [])) UnknownColumn
    × Refuses (statement (grouped_by (item (named (codes "n_name")) ∷ []) (codes "r_name" ∷ [])
    (from_table (codes "nation") ∷ from_alias (codes "nation") (codes "m")
    ∷ from_table (codes "region") ∷ []))) AmbiguousColumn
    × Refuses (region_where (e.Exists one_from_derived)) LateralReference

-- select 1 from supplier b, region join nation on s_nationkey = n_nationkey
abbrev pub joined_outside : Block
joined_outside = select_from (item (number 1) ∷ [])
    (from_alias (codes "supplier") (codes "b")
    ∷ joined_on (equal (named (codes "s_nationkey")) (named (codes "n_nationkey"))) ∷ [])

-- joined_outside bound in a query over supplier
abbrev pub bound_outside : BoundBlock
bound_outside = bound.Plain
    (source.Cross (source.Table table.Supplier)
    (source.Inner (source.Table table.Region) (source.Table table.Nation)
    (record {
      inputs = input.Column 1 3 ∷ input.Column 0 3 ∷ [];
      expr = scalar.Compare operator.Equal (scalar.Column 0) (scalar.Column 1);
    })))
    (closed (scalar.All []))
    (closed (scalar.Literal (value.Number 0 (pos 1))) ∷ [])

-- ON looks for a name that its own join lacks in the queries around, and not in the other items of
-- its FROM list: `select 1 from supplier where exists (joined_outside)` reads the outer supplier.
abbrev pub NamesOfOn : Type 0
NamesOfOn = bound_query
    (statement (select_where (item (number 1) ∷ []) (from_table (codes "supplier") ∷ [])
    (e.Exists joined_outside))) []
    ≡ Ok (record {
      block = bound.Plain (source.Table table.Supplier)
          (record {
            inputs = input.Exists bound_outside ∷ [];
            expr = scalar.IsMarked (scalar.Column 0);
          })
          (closed (scalar.Literal (value.Number 0 (pos 1))) ∷ []);
      order = [];
      limit = None;
    })

-- select .. from region group by r_name, r_name
abbrev pub grouped_twice : List BoundExpr → BoundBlock
grouped_twice list = bound.Grouped (source.Table table.Region) (closed (scalar.All []))
    (1 ∷ 1 ∷ []) [] (closed (scalar.All [])) list

-- Repeated GROUP BY columns are both keys, and a name gets the first one's place.
abbrev pub RepeatedKeys : Type 0
RepeatedKeys = bound_query (statement
    (grouped_by (item r_name ∷ []) (codes "r_name" ∷ codes "r_name" ∷ [])
    (from_table (codes "region") ∷ []))) []
    ≡ Ok (record {
      block = grouped_twice (record { inputs = input.Column 0 0 ∷ []; expr = scalar.Column 0 }
          ∷ []);
      order = [];
      limit = None;
    })

-- select .. from (select r_name as a, r_name as a, r_regionkey + 1 from region) as t
abbrev pub over_unnamed : Expr → Query
over_unnamed x = statement (select_from (item x ∷ [])
    (from_derived
    (from_region (with_alias r_name (codes "a") ∷ with_alias r_name (codes "a")
    ∷ item (e.Sum (named (codes "r_regionkey")) (plus (number 1) ∷ [])) ∷ [])) (codes "t") ∷ []))

-- select r_name, r_name as a, r_regionkey as a from region order by ..
abbrev pub ordered_by : Name → Query
ordered_by name = record {
  with_queries = [];
  block = from_region (item r_name ∷ with_alias r_name (codes "a")
      ∷ with_alias (named (codes "r_regionkey")) (codes "a") ∷ []);
  order = record { column = name; is_descending = false } ∷ [];
  limit = None;
  version = None;
}

-- An output column without alias has its column's name, else no name that a query can write. Two of
-- one name may stand, and the name is then ambiguous, for ORDER BY too.
abbrev pub OutputNames : Type 0
OutputNames = Refuses (over_unnamed (named (codes "a"))) AmbiguousColumn
    × Refuses (over_unnamed (named (codes "r_regionkey"))) UnknownColumn
    × Refuses (ordered_by (codes "a")) AmbiguousColumn
    × Refuses (ordered_by (codes "r_regionkey")) UnknownColumn
    × (bound_query (ordered_by (codes "r_name")) []
    ≡ Ok (record {
      block = bound.Plain (source.Table table.Region) (closed (scalar.All []))
          (record { inputs = input.Column 0 1 ∷ []; expr = scalar.Column 0 }
          ∷ record { inputs = input.Column 0 1 ∷ []; expr = scalar.Column 0 }
          ∷ record { inputs = input.Column 0 0 ∷ []; expr = scalar.Column 0 } ∷ []);
      order = record { column = 0; is_descending = false } ∷ [];
      limit = None;
    }))

-- exists (select 1 from nation where ..)
abbrev pub nation_where : Expr → Expr
nation_where x = e.Exists
    (select_where (item (number 1) ∷ []) (from_table (codes "nation") ∷ []) x)

-- the sum of an expression equals 1
abbrev pub sum_is_one : Expr → Expr
sum_is_one x = equal (e.Aggregate Sum x) (number 1)

-- An aggregate is of the query in whose select list or HAVING it stands: in a subquery's WHERE, in
-- ON and in another aggregate it is NestedAggregate, before its columns count. A subquery in its
-- argument is bound first. The argument's kind comes before all these.
abbrev pub PlacesOfAggregates : Type 0
PlacesOfAggregates = Refuses (statement
    (grouped_by (item (nation_where (sum_is_one (number 1))) ∷ []) (codes "r_name" ∷ [])
    (from_table (codes "region") ∷ []))) NestedAggregate
    × Refuses (over_region (nation_where (sum_is_one (named (codes "r_regionkey")))))
    NestedAggregate
    × Refuses (one_from (joined_on (sum_is_one (number 1)) ∷ [])) NestedAggregate
    × Refuses (over_region (e.Aggregate Sum (e.Scalar two_names))) SubqueryColumns
    × Refuses (over_region (e.Aggregate Sum (e.Scalar names_of_regions))) SubqueryPlace
    × Refuses (over_region (e.Scalar
    (select_from (item (e.Aggregate Sum r_name) ∷ []) (from_table (codes "nation") ∷ []))))
    TypeMismatch

-- A query is grouped from its first item on, whatever stands last in its select list. A column that
-- is no GROUP BY column is refused at its turn, in HAVING and in a subquery too.
abbrev pub TurnsOfColumns : Type 0
TurnsOfColumns = Refuses (statement (from_region (item r_name ∷ item nope ∷ item e.CountRows ∷ [])))
    NotGrouped
    × Refuses (statement (from_region (item nope ∷ item r_name ∷ item e.CountRows ∷ [])))
    UnknownColumn
    × Refuses (statement (from_region (item e.CountRows ∷ item (e.Scalar name_of_region) ∷ [])))
    NotGrouped
    × Refuses (statement (having_where (Items (item e.CountRows ∷ [])) is_africa)) NotGrouped
