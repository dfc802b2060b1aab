use Rattle.std.proofs.Common.{take}
use Rattle.plan_unnested_nodes.specs.PlanKinds.{AreListed}
use Rattle.plan_unnested_nodes.proofs.origins.listed_kinds.Given as goal

abbrev pub invariant-loop-e : goal.invariant-loop-e
invariant-loop-e l = AreListed l.kinds (take l.e-index l.es) l.own
