use Rattle.expr_conditions.proofs.Truths.{or_flattens}
use Rattle.expr_conditions.proofs.laws.or_flattens.Goals as goal

pub returns : goal.returns
returns c = or_flattens
