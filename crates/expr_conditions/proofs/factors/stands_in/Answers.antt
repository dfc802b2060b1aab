use Rattle.expr_conditions.proofs.Implied.{below_in}
use Rattle.expr_conditions.proofs.factors.stands_in.Goals as goal

pub returns-then-is_same : goal.returns-then-is_same
returns-then-is_same c = λ t. below_in c.args.e.now c.args.es.now c.loop-f.f-index c.f-item.result c.loop-f-test.true c.f-item.is (c.is_same.ensures c.if-is_same.true)
