use Rattle.std.proofs.Common.{◌≡◌, ◌++◌, drop}
use Rattle.std.specs.List.{flat_map}
use Rattle.plan_algebra.specs.KeptPlans.{plain_aggregate}
use Rattle.plan_spelling.specs.Plans.{aggregate_spelling}
use Rattle.plan_spelling.proofs.nodes.put_kept_aggregates.Given as goal

abbrev pub invariant-loop-aggregate : goal.invariant-loop-aggregate
invariant-loop-aggregate l =
    l.numbers.items ++ flat_map (λ a. aggregate_spelling (plain_aggregate a)) (drop l.aggregate-index l.aggregates)
    ≡ l.fn.numbers.items ++ flat_map (λ a. aggregate_spelling (plain_aggregate a)) l.aggregates
