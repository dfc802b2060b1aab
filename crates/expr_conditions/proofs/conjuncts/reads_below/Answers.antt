use Rattle.expr_conditions.proofs.Ranks.{below_more, below_end}
use Rattle.expr_conditions.proofs.conjuncts.reads_below.Goals as goal

pub loop-column-preserved : goal.loop-column-preserved
loop-column-preserved c = below_more c.args.limit c.deref-column-items.result.now c.loop-column.column-index c.loop-column-test.true c.if-column-limit.false c.loop-column.invariant

pub returns : goal.returns
returns c = λ t. below_end c.args.limit c.deref-column-items.result.now c.in_ok-columns.columns.items _ c.loop-column.column-index c.loop-column-test.false c.deref-column-items.ensures.value c.in_ok-columns.ensures c.loop-column.invariant
