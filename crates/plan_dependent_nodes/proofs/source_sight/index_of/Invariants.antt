use Rattle.std.proofs.Common.{◌≡◌, false, take}
use Rattle.plan_dependent_nodes.specs.Seeks.{has_place}
use Rattle.plan_dependent_nodes.proofs.source_sight.index_of.Given as goal

abbrev pub invariant-loop-i : goal.invariant-loop-i
invariant-loop-i l = has_place (take l.i l.places) l.place ≡ false
