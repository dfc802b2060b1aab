use Rattle.std.proofs.Common.{◌≡◌, take}
use Rattle.plan_unnested_nodes.specs.PlanKinds.{picked}
use Rattle.plan_unnested_nodes.proofs.origins.picked_kinds.Given as goal

abbrev pub invariant-loop-column : goal.invariant-loop-column
invariant-loop-column l = l.own ≡ picked l.kinds (take l.column-index l.columns)
