use Rattle.std.proofs.Common.{◌++◌, arith}
use Rattle.store_refresh_text.specs.Text.{rows_text}
use Rattle.store_refresh_text.proofs.Cells.{one_line}
use Rattle.store_refresh_text.proofs.text.push_segment.Goals as goal

pub loop-i-preserved : goal.loop-i-preserved
loop-i-preserved c =
    one_line c.batch-batch.result.now.rows c.args.segment.now c.loop-i.i c.loop-i.text.items c.push_row.new.text.items
    (c.args.text.now.items ++ rows_text c.args.segment.now) c.batch-batch.ensures.rows (omega (arith, c.loop-i-test.true, c.len-i-end.ensures.value))
    c.loop-i.invariant c.in_ok-push_row.ensures
