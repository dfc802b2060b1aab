-- Where the order of binding or the sight of a part decides, one small query each.
use Rattle.std.specs.Prelude.{◌≡◌, ℕ, List, [], ◌∷◌, map, None, Ok, Err, pos, codes, false}
use Rattle.sql_bound_query.specs.declared.query.BoundBlock.TheVariants as bound
use Rattle.sql_bound_query.specs.declared.query.BoundExpr.{BoundExpr}
use Rattle.sql_bound_query.specs.declared.query.BoundSource.TheVariants as source
use Rattle.sql_bound_query.specs.declared.query.Input.TheVariants as input
use Rattle.expr_operators.specs.declared.operator.Comparison.TheVariants as operator
use Rattle.base_refusals.specs.declared.bind.BindRefusal.TheVariants.{UnknownColumn}
use Rattle.base_refusals.specs.declared.bind.BindRefusal.TheVariants.{AmbiguousColumn}
use Rattle.base_refusals.specs.declared.bind.BindRefusal.TheVariants.{DuplicateAlias, TypeMismatch}
use Rattle.base_refusals.specs.declared.bind.BindRefusal.TheVariants.{NotGrouped, NestedAggregate}
use Rattle.base_refusals.specs.declared.bind.BindRefusal.TheVariants.{SubqueryColumns}
use Rattle.base_refusals.specs.declared.bind.BindRefusal.TheVariants.{IntervalOnColumn}
use Rattle.base_refusals.specs.declared.bind.BindRefusal.TheVariants.{TooManyTables}
use Rattle.expr_scalar.specs.declared.expr.Expr.{Expr as Scalar}
use Rattle.expr_scalar.specs.declared.expr.Expr.TheVariants as scalar
use Rattle.expr_scalar.specs.declared.kind.Kind.TheVariants as kind
use Rattle.sql_ast.specs.declared.tree.Block.{Block}
use Rattle.sql_ast.specs.declared.tree.Block.TheVariants as block
use Rattle.sql_ast.specs.declared.tree.Select.{roll-Select}
use Rattle.sql_ast.specs.declared.tree.Clause.TheVariants.{Absent, Condition}
use Rattle.sql_ast.specs.declared.tree.Expr.{Expr}
use Rattle.sql_ast.specs.declared.tree.Expr.TheVariants as e
use Rattle.sql_ast.specs.declared.tree.FromItem.TheVariants.{Table}
use Rattle.sql_ast.specs.declared.tree.Item.{Item}
use Rattle.sql_ast.specs.declared.tree.Join.{Join}
use Rattle.sql_ast.specs.declared.tree.Joined.{Joined, roll-Joined}
use Rattle.sql_ast.specs.declared.tree.Selected.{Selected}
use Rattle.sql_ast.specs.declared.tree.Selected.TheVariants.{All, Items}
use Rattle.sql_ast.specs.declared.words.Aggregate.TheVariants.{Sum}
use Rattle.sql_ast.specs.declared.words.Comparison.TheVariants as compared
use Rattle.sql_ast.specs.declared.words.JoinKind.TheVariants.{Inner}
use Rattle.sql_ast.specs.declared.words.Span.TheVariants.{Month, Day}
use Rattle.base_value.specs.declared.value.Value.TheVariants as value
use Rattle.base_schema.specs.declared.table.TableName.TheVariants as table
use Rattle.sql_binder_steps.specs.Steps.{Name}
use Rattle.sql_binder.specs.Binding.{bound_query, bound_view}
use Rattle.sql_binder.specs.Examples.{named, of_item, number, plus, minus, item, from_table}
use Rattle.sql_binder.specs.Examples.{from_alias, from_derived, select_from, select_where}
use Rattle.sql_binder.specs.Examples.{statement, over_region, Refuses, r_name, name_of_region}
use Rattle.sql_binder.specs.Examples.{two_names, one_day, view_of}

-- a date literal
abbrev pub date : List ℕ → Expr
date text = e.Date text

-- date '1996-01-31' + interval '1' month
abbrev pub end_of_february : Expr
end_of_february = e.Sum (date (codes "1996-01-31")) (plus (e.Interval (codes "1") Month) ∷ [])

-- date '1998-12-01' - interval '90' day
abbrev pub ninety_days_before : Expr
ninety_days_before = e.Sum (date (codes "1998-12-01")) (minus (e.Interval (codes "90") Day) ∷ [])

-- r_regionkey = 0
abbrev pub is_africa : Expr
is_africa = e.Compare compared.Equal (named (codes "r_regionkey")) (number 0)

-- an expression without inputs
abbrev pub closed : Scalar → BoundExpr
closed x = record { inputs = []; expr = x }

-- select items from region
abbrev pub from_region : List Item → Block
from_region items = select_from items (from_table (codes "region") ∷ [])

-- select items from region group by columns
abbrev pub grouped_by : List Item → List Name → List Joined → Block
grouped_by items columns from = block.Select (roll-Select (record {
  is_distinct = false;
  selected = Items items;
  from = from;
  condition = Absent;
  group = map (λ n. record { item = None; name = n }) columns;
  having = Absent;
}))

-- `.. having true`
abbrev pub having_where : Selected → Expr → Block
having_where selected x =
    block.Select (roll-Select (record {
      is_distinct = false;
      selected = selected;
      from = from_table (codes "region") ∷ [];
      condition = Absent;
      group = [];
      having = Condition x;
    }))

-- a join under its own name
abbrev pub join_on : Name → Expr → Join
join_on n x = record { kind = Inner; item = Table n None; condition = x }

-- a = b
abbrev pub equal : Expr → Expr → Expr
equal a b = e.Compare compared.Equal a b

-- Dates that are moved when they are bound: `date '1996-01-31' + interval '1' month`,
-- `date '1998-12-01' - interval '90' day`.
abbrev pub MovedDates : Type 0
MovedDates =
    bound_query (statement (select_where (item end_of_february ∷ item ninety_days_before ∷ [])
    (from_table (codes "region") ∷ []) is_africa)) []
    ≡ Ok (record {
      block = bound.Plain (source.Table table.Region)
          (record {
            inputs = input.Column 0 0 ∷ [];
            expr = scalar.Compare operator.Equal (scalar.Column 0)
                (scalar.Literal (value.Number 0 (pos 0)));
          })
          (closed (scalar.Literal (value.Date 19960229))
          ∷ closed (scalar.Literal (value.Date 19980902)) ∷ []);
      order = [];
      limit = None;
    })

-- `create view v as select r_name from region`
abbrev pub ViewOfNames : Type 0
ViewOfNames = bound_view (codes "v") [] (from_region (item r_name ∷ [])) []
    ≡ Ok (record {
      name = codes "v";
      columns = record { name = codes "r_name"; kind = kind.Text } ∷ [];
      block = bound.Plain (source.Table table.Region) (closed (scalar.All []))
          (record { inputs = input.Column 0 1 ∷ []; expr = scalar.Column 0 } ∷ []);
      items = 1;
      kept = None;
    })

-- intervals: an interval before a date and one by itself are refused; a date moved twice is a date
-- literal; 1 + 'x' before a later name
abbrev pub Chains : Type 0
Chains = Refuses (over_region one_day) IntervalOnColumn
    × Refuses (over_region (e.Sum one_day (plus (date (codes "1996-01-31")) ∷ []))) IntervalOnColumn
    × (bound_query (over_region
    (e.Sum (e.Sum (date (codes "1996-01-30")) (plus one_day ∷ [])) (plus one_day ∷ []))) []
    ≡ Ok (record {
      block = bound.Plain (source.Table table.Region) (closed (scalar.All []))
          (closed (scalar.Literal (value.Date 19960201)) ∷ []);
      order = [];
      limit = None;
    }))
    × Refuses (over_region (e.Sum (number 1) (plus r_name ∷ plus (named (codes "nope")) ∷ [])))
    TypeMismatch
    × Refuses (over_region (e.And (number 1) (named (codes "nope") ∷ []))) UnknownColumn
    × Refuses (over_region (e.InList (number 1) (r_name ∷ named (codes "nope") ∷ []))) UnknownColumn
    × Refuses (over_region (e.Case
    (record { condition = number 1; value = named (codes "nope") } ∷ []))) UnknownColumn

-- conditions are no values
abbrev pub ConditionsAsValues : Type 0
ConditionsAsValues = Refuses (over_region is_africa) TypeMismatch
    × Refuses (over_region (e.Count is_africa)) TypeMismatch
    × Refuses (over_region (e.Negative is_africa)) TypeMismatch
    × Refuses (over_region (e.Case (record { condition = is_africa; value = is_africa } ∷ [])))
    TypeMismatch

-- `select * .. having ..` is NotGrouped; an aggregate's kind is tested first, then its place, then
-- its columns
abbrev pub Groups : Type 0
Groups = Refuses (statement (having_where All is_africa)) NotGrouped
    × Refuses (statement (select_where (item r_name ∷ []) (from_table (codes "region") ∷ [])
    (equal (e.Aggregate Sum r_name) (number 1)))) TypeMismatch
    × Refuses (statement (select_where (item r_name ∷ []) (from_table (codes "region") ∷ [])
    (equal (e.Aggregate Sum (number 1)) (number 1)))) NestedAggregate
    × Refuses (statement (grouped_by (item e.CountRows ∷ []) (codes "n_name" ∷ [])
    (from_table (codes "nation") ∷ from_alias (codes "nation") (codes "m") ∷ []))) AmbiguousColumn
    × Refuses (statement (grouped_by (item r_name ∷ []) (codes "n_name" ∷ [])
    (from_table (codes "nation") ∷ from_table (codes "region") ∷ []))) NotGrouped

-- region join nation on x join supplier on y
abbrev pub two_joins : Expr → Expr → Joined
two_joins x y = roll-Joined
    (record {
      first = Table (codes "region") None;
      joins = join_on (codes "nation") x ∷ join_on (codes "supplier") y ∷ [];
    })

-- ON of the first join doesn't see the third table; a name of another comma's item is looked for in
-- the queries around
abbrev pub SightsOfParts : Type 0
SightsOfParts = Refuses (statement
    (select_from (item r_name ∷ [])
    (two_joins (equal (named (codes "s_nationkey")) (number 1)) is_africa ∷ []))) UnknownColumn
    × Refuses (statement (select_from (item r_name ∷ [])
    (from_table (codes "supplier")
    ∷ two_joins (equal (named (codes "s_nationkey")) (number 1)) is_africa ∷ []))) UnknownColumn
    × Refuses (statement (select_from (item r_name ∷ [])
    (from_derived name_of_region (codes "t") ∷ from_table (codes "region") ∷ []))) UnknownColumn
    × Refuses (over_region (e.Exists
    (select_where (item (number 1) ∷ []) (from_alias (codes "nation") (codes "region") ∷ [])
    (equal (of_item (codes "region") (codes "r_name")) r_name)))) UnknownColumn
    × Refuses (statement (select_from (item (number 1) ∷ [])
    (from_table (codes "region") ∷ from_alias (codes "region") (codes "b")
    ∷ from_derived name_of_region (codes "t") ∷ []))) AmbiguousColumn

-- the order of the refusals of an item of FROM: of its items' number, its alias, its query, its
-- column
abbrev pub OrderInFrom : Type 0
OrderInFrom = (bound_query
    (statement (select_from (item r_name ∷ [])
    (from_table (codes "region") ∷ from_alias (codes "v") (codes "region") ∷ []))) (view_of 31 ∷ [])
    ≡ Err TooManyTables)
    × (bound_query (statement
    (select_from (item r_name ∷ [])
    (from_alias (codes "v") (codes "region") ∷ from_table (codes "region") ∷ []))) (view_of 30 ∷ [])
    ≡ Err DuplicateAlias)
    × Refuses (statement (select_from (item r_name ∷ [])
    (from_table (codes "region")
    ∷ from_derived (from_region (item (named (codes "nope")) ∷ [])) (codes "region") ∷ [])))
    UnknownColumn
    × Refuses (statement (select_from (item (number 1) ∷ [])
    (roll-Joined (record {
      first = Table (codes "region") None;
      joins = join_on (codes "nation") (equal (e.Scalar two_names) (number 1)) ∷ [];
    }) ∷ []))) SubqueryColumns

-- of a view: of its names, its query, their number
abbrev pub OrderInViews : Type 0
OrderInViews = (bound_view (codes "v") (codes "a" ∷ codes "a" ∷ [])
    (from_region (item (named (codes "nope")) ∷ [])) [] ≡ Err DuplicateAlias)
    × (bound_view (codes "v") (codes "a" ∷ codes "b" ∷ [])
    (from_region (item (named (codes "nope")) ∷ [])) [] ≡ Err UnknownColumn)
    × (bound_view (codes "v") (codes "a" ∷ codes "b" ∷ []) (from_region (item r_name ∷ [])) []
    ≡ Err SubqueryColumns)
