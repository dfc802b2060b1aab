use Rattle.expr_conditions.proofs.Truths.{factor_out}
use Rattle.expr_conditions.proofs.laws.factor_out.Goals as goal

pub returns : goal.returns
returns c = factor_out
