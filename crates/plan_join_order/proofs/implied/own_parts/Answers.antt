use Rattle.std.proofs.Common.{sym, subst}
use Rattle.plan_join_order.specs.Implied.{AreImplied}
use Rattle.plan_join_order.proofs.OfOrs.{implied_none, part_more}
use Rattle.plan_join_order.proofs.implied.own_parts.Goals as goal

pub loop-e-init : goal.loop-e-init
loop-e-init c = subst (λ l. AreImplied _ l) (sym c.new-own.ensures) (implied_none _)

pub loop-e-preserved : goal.loop-e-preserved
loop-e-preserved c = part_more c.args.es.now c.loop-e.own _ c.loop-e.e-index c.e-item.result
    c.loop-e-test.true c.e-item.is c.loop-e.invariant c.in_ok-put_own.ensures
