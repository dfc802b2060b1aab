use Rattle.std.proofs.Common.{rules}
use Rattle.expr_conditions.proofs.Implied.{any_none, any_more, any_end}
use Rattle.expr_conditions.proofs.factors.is_common.Goals as goal

pub loop-part-init : goal.loop-part-init
loop-part-init c = any_none c.args.e.now

pub loop-part-preserved : goal.loop-part-preserved
loop-part-preserved c = any_more c.args.e.now c.args.parts.now c.loop-part.part-index c.part-item.result c.loop-part-test.true c.part-item.is c.loop-part.invariant (c.is_factor.ensures (search rules))

pub returns : goal.returns
returns c = λ t. any_end c.args.e.now c.args.parts.now c.loop-part.part-index c.loop-part-test.false c.loop-part.invariant
