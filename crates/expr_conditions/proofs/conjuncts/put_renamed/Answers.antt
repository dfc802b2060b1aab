use Rattle.expr_conditions.proofs.Ranks.{put_one}
use Rattle.expr_conditions.proofs.conjuncts.put_renamed.Goals as goal

pub returns : goal.returns
returns c = put_one c.args.places.now c.args.e.now c.in_ok-new.new c.args.to.now _ c.in_ok-new.ensures.meaning c.in_ok-push.ensures.ok
