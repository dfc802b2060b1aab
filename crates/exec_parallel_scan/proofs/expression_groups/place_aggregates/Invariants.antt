use Rattle.std.proofs.Common.{◌≡◌, ◌+◌, take}
use Rattle.exec_parallel_scan.specs.ExpressionGroups.{place_aggregates}
use Rattle.exec_parallel_scan.proofs.expression_groups.place_aggregates.Given as goal

abbrev pub invariant-loop-aggregate : goal.invariant-loop-aggregate
invariant-loop-aggregate l = (l.moved.items ≡ place_aggregates l.first (take l.aggregate-index l.aggregates)) × (l.count ≡ l.first + l.aggregate-index)
