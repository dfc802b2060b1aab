use Rattle.std.proofs.Common.{arith, ap, ◌∙◌}
use Rattle.exec_column_expr.specs.Lanes.{over}
use Rattle.exec_column_expr.proofs.Nodes.{past_end}
use Rattle.exec_column_expr.proofs.evaluate.column_operand.Goals as goal

pub returns-else-place-width : goal.returns-else-place-width
returns-else-place-width c =
    ap (over c.args.n) c.one.ensures
    ∙ past_end c.args.batch.now.rows c.args.batch.now.width c.args.place c.args.n c.width.ensures.wide (omega (arith, c.width.ensures.value, c.if-place-width.false)) c.requires
