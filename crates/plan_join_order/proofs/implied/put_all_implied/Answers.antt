use Rattle.plan_join_order.proofs.OfOrs.{implied_more}
use Rattle.plan_join_order.proofs.implied.put_all_implied.Goals as goal

pub loop-e-preserved : goal.loop-e-preserved
loop-e-preserved c = λ h.
    implied_more c.args.es.now c.loop-e.to _ c.loop-e.e-index c.e-item.result c.loop-e-test.true
    c.e-item.is (c.loop-e.invariant h) c.in_ok-put_implied.ensures
