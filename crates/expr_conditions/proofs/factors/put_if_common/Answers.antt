use Rattle.expr_conditions.proofs.Implied.{implied_none, implied_one}
use Rattle.expr_conditions.proofs.factors.put_if_common.Goals as goal

pub returns-in_ok-push : goal.returns-in_ok-push
returns-in_ok-push c =
    implied_one c.args.places.now c.args.parts.now c.args.to.now _ c.args.e.now c.in_ok-new.new (c.is_common.ensures c.if-is_common.true) c.in_ok-new.ensures.meaning c.in_ok-push.ensures.ok

pub returns-else-is_common : goal.returns-else-is_common
returns-else-is_common c = implied_none c.args.places.now c.args.parts.now c.args.to.now
