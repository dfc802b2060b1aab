use Rattle.plan_join_order.proofs.Narrowing.{asked_more}
use Rattle.plan_join_order.proofs.narrow.asked_all.Goals as goal

pub loop-e-preserved : goal.loop-e-preserved
loop-e-preserved c = asked_more c.args.places.now c.args.es.now c.loop-e.all _ c.loop-e.e-index
    c.e-item.result c.in_ok-new.new c.loop-e-test.true c.e-item.is c.loop-e.invariant
    c.in_ok-new.ensures.meaning c.in_ok-push.ensures.ok
