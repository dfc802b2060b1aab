use Rattle.std.proofs.Common.{take}
use Rattle.plan_dependent_nodes.specs.Growth.{AreAt}
use Rattle.plan_dependent_nodes.specs.Supplied.{AreSeen}
use Rattle.plan_dependent_nodes.proofs.parts.outer_places.Given as goal

abbrev pub invariant-loop-column : goal.invariant-loop-column
invariant-loop-column l =
    AreSeen l.sight.outer.now l.sight.width l.outer
    → AreAt l.sight.outer.now l.sight.start l.sight.width (take l.column-index l.outer) l.places
