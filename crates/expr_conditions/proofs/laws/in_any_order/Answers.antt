use Rattle.expr_conditions.proofs.Truths.{in_any_order}
use Rattle.expr_conditions.proofs.laws.in_any_order.Goals as goal

pub returns : goal.returns
returns c = in_any_order
