use Rattle.std.proofs.Common.{take}
use Rattle.plan_tree_moves.specs.Regroup.{AggregatesMove}
use Rattle.plan_tree_moves.proofs.regroup.moved_aggregates.Given as goal

abbrev pub invariant-loop-aggregate : goal.invariant-loop-aggregate
invariant-loop-aggregate l = AggregatesMove l.whole (take l.aggregate-index l.aggregates) l.all
