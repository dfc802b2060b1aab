use Rattle.std.proofs.Common.{◌≡◌, map, take}
use Rattle.plan_unnested_nodes.specs.PlanKinds.{known_as}
use Rattle.plan_unnested_nodes.proofs.origins.stored_kinds.Given as goal

abbrev pub invariant-loop-column : goal.invariant-loop-column
invariant-loop-column l = l.own ≡ map known_as (take l.column-index l.columns)
