use Rattle.expr_conditions.proofs.Implied.{implied_none}
use Rattle.expr_conditions.proofs.factors.put_factors.Goals as goal

pub returns-in_default : goal.returns-in_default
returns-in_default c = implied_none c.args.places.now c.args.parts.now c.args.to.now
