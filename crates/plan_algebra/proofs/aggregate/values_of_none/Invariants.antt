use Rattle.std.proofs.Common.{◌≡◌, map, take}
use Rattle.plan_algebra.specs.Aggregates.{value_of_none}
use Rattle.plan_algebra.proofs.aggregate.values_of_none.Given as goal

abbrev pub invariant-loop-aggregate : goal.invariant-loop-aggregate
invariant-loop-aggregate l = l.values ≡ map value_of_none (take l.aggregate-index l.aggregates)
