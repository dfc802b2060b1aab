use Rattle.expr_conditions.proofs.Truths.{implied_by_or}
use Rattle.expr_conditions.proofs.laws.implied_by_or.Goals as goal

pub returns : goal.returns
returns c = implied_by_or
