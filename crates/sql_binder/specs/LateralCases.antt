-- Lateral items, which see the items to their left: what they are bound to and refused for.
use Rattle.std.specs.Prelude.{◌≡◌, List, [], ◌∷◌, None, Ok, Err, pos, codes}
use Rattle.base_refusals.specs.declared.bind.BindRefusal.TheVariants.{UnknownColumn}
use Rattle.base_refusals.specs.declared.bind.BindRefusal.TheVariants.{AmbiguousColumn}
use Rattle.base_refusals.specs.declared.bind.BindRefusal.TheVariants.{DuplicateAlias}
use Rattle.base_refusals.specs.declared.bind.BindRefusal.TheVariants.{OuterAggregate}
use Rattle.base_refusals.specs.declared.bind.BindRefusal.TheVariants.{LateralReference}
use Rattle.base_refusals.specs.declared.bind.BindRefusal.TheVariants.{SubqueryColumns}
use Rattle.base_refusals.specs.declared.bind.BindRefusal.TheVariants.{TooManyTables}
use Rattle.base_schema.specs.declared.table.TableName.TheVariants as table
use Rattle.base_value.specs.declared.value.Value.TheVariants as value
use Rattle.expr_operators.specs.declared.operator.Comparison.TheVariants as operator
use Rattle.expr_scalar.specs.declared.expr.Expr.TheVariants as scalar
use Rattle.sql_ast.specs.declared.statement.Query.{Query}
use Rattle.sql_ast.specs.declared.tree.Block.{Block}
use Rattle.sql_ast.specs.declared.tree.Expr.{Expr}
use Rattle.sql_ast.specs.declared.tree.Expr.TheVariants as e
use Rattle.sql_ast.specs.declared.tree.FromItem.TheVariants.{Table, Lateral}
use Rattle.sql_ast.specs.declared.tree.Joined.{Joined, roll-Joined}
use Rattle.sql_ast.specs.declared.words.JoinKind.{JoinKind}
use Rattle.sql_ast.specs.declared.words.JoinKind.TheVariants.{Inner, LeftOuter}
use Rattle.sql_bound_query.specs.declared.query.BoundBlock.{BoundBlock}
use Rattle.sql_bound_query.specs.declared.query.BoundBlock.TheVariants as bound
use Rattle.sql_bound_query.specs.declared.query.BoundExpr.{BoundExpr}
use Rattle.sql_bound_query.specs.declared.query.BoundSource.{BoundSource}
use Rattle.sql_bound_query.specs.declared.query.BoundSource.TheVariants as source
use Rattle.sql_bound_query.specs.declared.query.Input.TheVariants as input
use Rattle.sql_binder_steps.specs.Steps.{Name}
use Rattle.sql_binder.specs.Binding.{bound_query}
use Rattle.sql_binder.specs.Examples.{named, number, item, from_table, from_alias, from_derived}
use Rattle.sql_binder.specs.Examples.{select_from, select_where, statement, Refuses, r_name}
use Rattle.sql_binder.specs.Examples.{name_of_region, outer_sum, two_names, view_of}
use Rattle.sql_binder.specs.EdgeCases.{closed, equal}
use Rattle.sql_binder.specs.WithCases.{plainly, nope_from_region}

-- select 1 from ..
abbrev pub select_one : List Joined → Block
select_one from = select_from (item (number 1) ∷ []) from

-- lateral (query) as t, alone between its commas
abbrev pub lateral_item : Block → Joined
lateral_item q = roll-Joined (record { first = Lateral q (codes "t") []; joins = [] })

-- a table and a lateral item that is joined to it
abbrev pub joined_lateral : JoinKind → Name → Block → Expr → Joined
joined_lateral kind n q x = roll-Joined
    (record {
      first = Table n None;
      joins = record { kind = kind; item = Lateral q (codes "t") []; condition = x } ∷ [];
    })

-- 1 = 1
abbrev pub one_is_one : Expr
one_is_one = equal (number 1) (number 1)

-- 1 = 1, bound
abbrev pub bound_equality : BoundExpr
bound_equality = closed (scalar.Compare operator.Equal (scalar.Literal (value.Number 0 (pos 1)))
    (scalar.Literal (value.Number 0 (pos 1))))

-- n_name
abbrev pub n_name : Expr
n_name = named (codes "n_name")

-- select 1 from ..., bound
abbrev pub bound_one : BoundSource → BoundBlock
bound_one rows = bound.Plain rows (closed (scalar.All []))
    (closed (scalar.Literal (value.Number 0 (pos 1))) ∷ [])

-- select r_name from nation, where r_name is region's column some levels out
abbrev pub outer_name : BoundBlock
outer_name = bound.Plain (source.Table table.Nation) (closed (scalar.All []))
    (record { inputs = input.Column 1 1 ∷ []; expr = scalar.Column 0 } ∷ [])

-- two columns of the joined row are equal
abbrev pub equal_columns : BoundExpr
equal_columns = record {
  inputs = input.Column 0 3 ∷ input.Column 0 1 ∷ [];
  expr = scalar.Compare operator.Equal (scalar.Column 0) (scalar.Column 1);
}

-- select 1 from region where exists (select 1 from lateral (select r_name from nation) as t)
abbrev pub first_of_subquery : Query
first_of_subquery = statement
    (select_where (item (number 1) ∷ []) (from_table (codes "region") ∷ [])
    (e.Exists (select_one (lateral_item name_of_region ∷ []))))

-- `select 1 from region, lateral (select r_name from nation) as t`,
-- `select 1 from region left join lateral (select n_name from nation) as t on n_name = r_name`,
-- `select 1 from region, supplier join lateral (select r_name from nation) as t on ..`, whose row
-- so far has region's columns too. A first item sees a row so far without columns, so that the row
-- of the query around stands one level further out.
abbrev pub BoundLaterals : Type 0
BoundLaterals = (bound_query
    (statement (select_one (from_table (codes "region") ∷ lateral_item name_of_region ∷ []))) []
    ≡ Ok (plainly (bound_one (source.Cross (source.Table table.Region)
    (source.Lateral outer_name)))))
    × (bound_query
    (statement (select_one
    (joined_lateral LeftOuter (codes "region")
    (select_from (item n_name ∷ []) (from_table (codes "nation") ∷ []))
    (equal n_name r_name) ∷ []))) []
    ≡ Ok (plainly (bound_one (source.Outer (source.Table table.Region)
    (source.Lateral (bound.Plain (source.Table table.Nation) (closed (scalar.All []))
    (record { inputs = input.Column 0 1 ∷ []; expr = scalar.Column 0 } ∷ []))) 1 equal_columns))))
    × (bound_query
    (statement (select_one (from_table (codes "region")
    ∷ joined_lateral Inner (codes "supplier") name_of_region one_is_one ∷ []))) []
    ≡ Ok (plainly (bound_one (source.Cross (source.Table table.Region)
    (source.Inner (source.Table table.Supplier) (source.Lateral outer_name) bound_equality)))))
    × (bound_query first_of_subquery []
    ≡ Ok (plainly (bound.Plain (source.Table table.Region)
    (record {
      inputs = input.Exists (bound_one (source.Lateral
          (bound.Plain (source.Table table.Nation) (closed (scalar.All []))
          (record { inputs = input.Column 2 1 ∷ []; expr = scalar.Column 0 } ∷ [])))) ∷ [];
      expr = scalar.IsMarked (scalar.Column 0);
    }) (closed (scalar.Literal (value.Number 0 (pos 1))) ∷ []))))

-- An item to the right and the item itself are not in sight; two columns to the left are ambiguous;
-- an aggregate's argument may not be of them alone. A derived table around hides what stands to its
-- left from a lateral item too. A lateral item counts, its query is bound before its alias is
-- tested, and its query's columns are counted last.
abbrev pub RefusedLaterals : Type 0
RefusedLaterals = Refuses (statement (select_one
    (lateral_item name_of_region ∷ from_table (codes "region") ∷ []))) UnknownColumn
    × Refuses (statement (select_one (from_table (codes "region")
    ∷ joined_lateral Inner (codes "nation") (select_from (item (named (codes "s_name")) ∷ [])
    (from_table (codes "orders") ∷ [])) one_is_one ∷ from_table (codes "supplier") ∷ [])))
    UnknownColumn
    × Refuses (statement (select_one (from_table (codes "region")
    ∷ from_alias (codes "region") (codes "b") ∷ lateral_item name_of_region ∷ []))) AmbiguousColumn
    × Refuses (statement (select_one (from_table (codes "region") ∷ lateral_item outer_sum ∷ [])))
    OuterAggregate
    × Refuses (statement (select_one (from_table (codes "region")
    ∷ from_derived (select_one (from_table (codes "supplier") ∷ lateral_item name_of_region ∷ []))
    (codes "d") ∷ []))) LateralReference
    × Refuses (statement (select_one (from_alias (codes "region") (codes "t")
    ∷ lateral_item name_of_region ∷ []))) DuplicateAlias
    × Refuses (statement (select_one (from_alias (codes "region") (codes "t")
    ∷ lateral_item nope_from_region ∷ []))) UnknownColumn
    × (bound_query (statement (select_one (from_table (codes "v")
    ∷ lateral_item (select_from (item r_name ∷ []) (from_table (codes "region") ∷ [])) ∷ [])))
    (view_of 30 ∷ []) ≡ Err TooManyTables)
    × Refuses (statement (select_one (from_table (codes "region")
    ∷ roll-Joined (record {
      first = Lateral two_names (codes "t") (codes "a" ∷ []);
      joins = [];
    }) ∷ []))) SubqueryColumns
