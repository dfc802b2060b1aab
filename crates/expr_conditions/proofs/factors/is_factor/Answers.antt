use Rattle.expr_conditions.proofs.Implied.{below_and, below_same}
use Rattle.expr_conditions.proofs.factors.is_factor.Goals as goal

pub returns-in-All : goal.returns-in-All
returns-in-All c = λ t. below_and c.args.e.now c.args.part.now c.in-All.es _ (c.stands_in.ensures t) c.as_slice.ensures c.in-All.is

pub returns-in_default : goal.returns-in_default
returns-in_default c = λ t. below_same c.args.e.now c.args.part.now (c.is_same.ensures t)
