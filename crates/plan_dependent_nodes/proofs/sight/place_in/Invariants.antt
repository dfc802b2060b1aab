use Rattle.std.proofs.Common.{◌≡◌, false, take}
use Rattle.plan_dependent_nodes.specs.Seeks.{has}
use Rattle.plan_dependent_nodes.proofs.sight.place_in.Given as goal

abbrev pub invariant-loop-i : goal.invariant-loop-i
invariant-loop-i l = has (take l.i l.outer) l.column.level l.column.place ≡ false
