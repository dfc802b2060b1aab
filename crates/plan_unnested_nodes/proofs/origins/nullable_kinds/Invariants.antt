use Rattle.std.proofs.Common.{◌≡◌, map, take}
use Rattle.plan_unnested_nodes.specs.PlanKinds.{nullable}
use Rattle.plan_unnested_nodes.proofs.origins.nullable_kinds.Given as goal

abbrev pub invariant-loop-known : goal.invariant-loop-known
invariant-loop-known l = l.own ≡ map nullable (take l.known-index l.kinds)
