use Rattle.std.proofs.Common.{◌≡◌, take}
use Rattle.plan_algebra.proofs.kept_plan.copied_aggregates.Given as goal

abbrev pub invariant-loop-aggregate : goal.invariant-loop-aggregate
invariant-loop-aggregate l = l.all ≡ take l.aggregate-index l.aggregates
