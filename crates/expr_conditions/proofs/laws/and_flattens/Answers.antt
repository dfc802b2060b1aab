use Rattle.expr_conditions.proofs.Truths.{and_flattens}
use Rattle.expr_conditions.proofs.laws.and_flattens.Goals as goal

pub returns : goal.returns
returns c = and_flattens
