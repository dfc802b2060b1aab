use Rattle.std.proofs.Common.{◌≡◌, length, map, take}
use Rattle.plan_kept_queries.specs.Scans.{tables_of_input, tables_of_expr, tables_of_aggregate}
use Rattle.plan_kept_queries.specs.Scans.{joined_tables}
use Rattle.plan_dependent_nodes.specs.Growth.{Attaches, InputsAt, ListAt, AggregatesAt}
use Rattle.plan_dependent_nodes.specs.Growth.{SameFunctions}
use Rattle.plan_dependent_nodes.specs.Supplied.{AggregatesAreSupplied, InputsAreSupplied}
use Rattle.plan_dependent_nodes.specs.Supplied.{ListIsSupplied}
use Rattle.plan_dependent_tree.proofs.tree.+depend.Given as goal

abbrev pub invariant-attach_aggregates-loop-a : goal.invariant-attach_aggregates-loop-a
invariant-attach_aggregates-loop-a l =
    (AggregatesAreSupplied l.all l.sight.outer.now l.sight.width
    → Attaches l.sight.outer.now l.sight.start l.sight.width
    (joined_tables (map tables_of_aggregate (take l.a-index l.all)))
    (AggregatesAt (take l.a-index l.all) l.aggregates)
    l.fn.grown.tree l.fn.grown.end l.grown.tree l.grown.end)
    × SameFunctions (take l.a-index l.all) l.aggregates
    × (length l.aggregates ≡ l.a-index)

abbrev pub invariant-attach_inputs-loop-input : goal.invariant-attach_inputs-loop-input
invariant-attach_inputs-loop-input l =
    InputsAreSupplied l.inputs l.sight.outer.now l.sight.width
    → Attaches l.sight.outer.now l.sight.start l.sight.width
    (joined_tables (map tables_of_input (take l.input-index l.inputs)))
    (InputsAt (take l.input-index l.inputs) l.columns)
    l.fn.grown.tree l.fn.grown.end l.grown.tree l.grown.end

abbrev pub invariant-attach_list-loop-e : goal.invariant-attach_list-loop-e
invariant-attach_list-loop-e l =
    (ListIsSupplied l.list l.sight.outer.now l.sight.width
    → Attaches l.sight.outer.now l.sight.start l.sight.width
    (joined_tables (map tables_of_expr (take l.e-index l.list)))
    (ListAt (take l.e-index l.list) l.exprs)
    l.fn.grown.tree l.fn.grown.end l.grown.tree l.grown.end)
    × (length l.exprs ≡ l.e-index)
