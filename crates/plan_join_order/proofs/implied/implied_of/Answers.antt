use Rattle.std.proofs.Common.{sym, subst}
use Rattle.plan_join_order.specs.Implied.{AreImplied}
use Rattle.plan_join_order.proofs.OfOrs.{implied_none}
use Rattle.plan_join_order.proofs.implied.implied_of.Goals as goal

pub loop-input-init : goal.loop-input-init
loop-input-init c = subst (λ l. AreImplied c.args.es.now l) (sym c.new-all.ensures)
    (implied_none c.args.es.now)

pub loop-input-preserved : goal.loop-input-preserved
loop-input-preserved c = c.in_ok-put_all_implied.ensures c.loop-input.invariant
