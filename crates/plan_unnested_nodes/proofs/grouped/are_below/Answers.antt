use Rattle.std.proofs.Common.{refl}
use Rattle.expr_conditions.proofs.Ranks.{below_more, below_end}
use Rattle.plan_unnested_nodes.proofs.grouped.are_below.Goals as goal

pub loop-column-preserved : goal.loop-column-preserved
loop-column-preserved c =
    below_more c.args.limit c.args.columns.now c.loop-column.column-index c.loop-column-test.true
    c.if-column-limit.false c.loop-column.invariant

pub returns : goal.returns
returns c = λ t.
    below_end c.args.limit c.args.columns.now c.args.columns.now c.args.columns.now
    c.loop-column.column-index c.loop-column-test.false refl refl c.loop-column.invariant
