use Rattle.std.proofs.Common.{take}
use Rattle.std.specs.Prelude.{Some}
use Rattle.plan_dependent_nodes.specs.Growth.{ArePlain}
use Rattle.plan_dependent_nodes.specs.Supplied.{InputsAreSupplied}
use Rattle.plan_dependent_nodes.proofs.sources.plain_places.Given as goal

abbrev pub invariant-loop-input : goal.invariant-loop-input
invariant-loop-input l =
    InputsAreSupplied l.inputs l.sight.outer.now l.sight.width
    → ArePlain l.sight.outer.now l.sight.start l.sight.width (take l.input-index l.inputs)
    (Some l.places)
