use Rattle.std.proofs.Common.{arith, false}
use Rattle.base_columns.proofs.MarkedColumns.{kept_past, on_err}
use Rattle.base_columns.proofs.marked_pushes.push_beside.Goals as goal

pub returns-in_err-push-clause-err : goal.returns-in_err-push-clause-err
returns-in_err-push-clause-err c =
    on_err c.from_residual.result
    (kept_past c.args.marks.now c.clear.new.self c.args.values.now.items c.push.new.self.items c.len.result false c.clear.ensures (omega (arith, c.len.ensures, c.args.values.now.ok.0)) c.in_err-push.ensures.items)
