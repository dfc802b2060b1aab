use Rattle.plan_predicate_sinking.proofs.BelowLists.{lowered_none, lowered_more, lowered_end}
use Rattle.plan_predicate_sinking.proofs.below.lowered.Goals as goal

pub loop-c-init : goal.loop-c-init
loop-c-init c = lowered_none c.args.n c.args.es.now _ _ c.new-covered.ensures c.new-rest.ensures

pub loop-c-preserved : goal.loop-c-preserved
loop-c-preserved c =
    lowered_more c.args.n c.args.es.now c.args.conditions.now c.loop-c.parts.covered _
    c.loop-c.parts.rest _ c.loop-c.c-index c.c-item.result c.loop-c-test.true c.c-item.is
    c.loop-c.invariant c.in_ok-put_lowered.ensures

pub returns : goal.returns
returns c = lowered_end c.args.n c.args.es.now c.args.conditions.now _ _ c.loop-c.c-index
    c.loop-c-test.false c.loop-c.invariant
