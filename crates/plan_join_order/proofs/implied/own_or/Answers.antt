use Rattle.std.proofs.Common.{sym, subst}
use Rattle.std.specs.Prelude.{IfSome}
use Rattle.expr_conditions.specs.Ranks.{IsBelow}
use Rattle.plan_join_order.proofs.OfOrs.{AreOred, ored_none, ored_more, any_below}
use Rattle.plan_join_order.proofs.implied.own_or.Goals as goal

pub loop-part-init : goal.loop-part-init
loop-part-init c = subst (λ l. AreOred _ l) (sym c.new-all.ensures) ored_none

pub loop-part-preserved : goal.loop-part-preserved
loop-part-preserved c =
    ored_more c.args.parts.now c.loop-part.all _ c.loop-part.part-index c.part-item.result
    c.into_inner.result c.loop-part-test.true c.part-item.is c.loop-part.invariant
    (subst (λ y. IsBelow y c.part-item.result) (sym c.into_inner.ensures)
    (subst (λ o. IfSome o (λ new. IsBelow new c.part-item.result)) c.in-Some.is
    c.in_ok-new.ensures))
    c.in_ok-push-in-Some.ensures.ok

pub returns : goal.returns
returns c = any_below c.args.parts.now c.loop-part.all c.in_ok-new-2.new c.loop-part.part-index
    c.loop-part-test.false c.loop-part.invariant c.in_ok-new-2.ensures
