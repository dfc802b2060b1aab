use Rattle.std.proofs.Common.{take}
use Rattle.plan_dependent_nodes.specs.Seeks.{has}
use Rattle.plan_dependent_nodes.proofs.LateralColumns.{Gathers}
use Rattle.plan_dependent_tree.proofs.so_far.nearest.Given as goal

abbrev pub invariant-loop-column : goal.invariant-loop-column
invariant-loop-column l =
    Gathers (λ place. has (take l.column-index l.column-items) 0 place) l.fn.found l.found
