use Rattle.std.proofs.Common.{◌≡◌, map, take}
use Rattle.plan_algebra.specs.KeptPlans.{plain_aggregate}
use Rattle.plan_algebra.proofs.kept_plan.plain_aggregates.Given as goal

abbrev pub invariant-loop-aggregate : goal.invariant-loop-aggregate
invariant-loop-aggregate l = l.all ≡ map plain_aggregate (take l.aggregate-index l.aggregates)
