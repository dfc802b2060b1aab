use Rattle.expr_conditions.proofs.Implied.{implied_none, implied_then}
use Rattle.expr_conditions.proofs.factors.put_common.Goals as goal

pub loop-e-init : goal.loop-e-init
loop-e-init c = implied_none c.args.places.now c.args.parts.now c.args.to.now

pub loop-e-preserved : goal.loop-e-preserved
loop-e-preserved c = implied_then c.args.places.now c.args.parts.now c.args.to.now c.loop-e.to _ c.loop-e.invariant c.in_ok-put_if_common.ensures
