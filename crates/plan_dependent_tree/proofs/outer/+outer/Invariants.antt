use Rattle.std.proofs.Common.{◌+◌, map, take}
use Rattle.plan_dependent_nodes.specs.Seeks.{any_seeks, seeks_of_aggregate, seeks_of_expr}
use Rattle.plan_dependent_nodes.specs.Seeks.{seeks_of_input}
use Rattle.plan_dependent_nodes.specs.Supplied.{Finds}
use Rattle.plan_dependent_tree.proofs.outer.+outer.Given as goal

abbrev pub invariant-aggregates-loop-a : goal.invariant-aggregates-loop-a
invariant-aggregates-loop-a l =
    Finds (any_seeks (map seeks_of_aggregate (take l.a-index l.all))) (l.within + 1) l.fn.found
    l.found

abbrev pub invariant-exprs-loop-e : goal.invariant-exprs-loop-e
invariant-exprs-loop-e l =
    Finds (any_seeks (map seeks_of_expr (take l.e-index l.all))) (l.within + 1) l.fn.found l.found

abbrev pub invariant-inputs-loop-i : goal.invariant-inputs-loop-i
invariant-inputs-loop-i l =
    Finds (any_seeks (map seeks_of_input (take l.i-index l.all))) (l.within + 1) l.fn.found l.found
