use Rattle.std.proofs.Common.{subst}
use Rattle.std.specs.Prelude.{IfSome}
use Rattle.plan_tree_moves.specs.Regroup.{AggregateMoves}
use Rattle.plan_tree_moves.proofs.Regrouping.{aggregates_none, aggregates_more, aggregates_end}
use Rattle.plan_tree_moves.proofs.regroup.moved_aggregates.Goals as goal

pub loop-aggregate-init : goal.loop-aggregate-init
loop-aggregate-init c = aggregates_none c.args.whole.now _ c.new-all.ensures

pub loop-aggregate-preserved : goal.loop-aggregate-preserved
loop-aggregate-preserved c =
    aggregates_more c.args.whole.now c.args.aggregates.now c.loop-aggregate.all _
    c.loop-aggregate.aggregate-index c.aggregate-item.result c.in-Some.new
    c.loop-aggregate-test.true c.aggregate-item.is c.loop-aggregate.invariant
    (subst (λ o. IfSome o (AggregateMoves c.args.whole.now c.aggregate-item.result)) c.in-Some.is
    c.in_ok-new.ensures)
    c.in_ok-push-in-Some.ensures.ok

pub returns : goal.returns
returns c = aggregates_end c.args.whole.now c.args.aggregates.now c.loop-aggregate.all
    c.loop-aggregate.aggregate-index c.loop-aggregate-test.false c.loop-aggregate.invariant
