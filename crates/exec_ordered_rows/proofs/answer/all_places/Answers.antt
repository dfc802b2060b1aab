use Rattle.std.proofs.Common.{[], arith}
use Rattle.exec_ordered_rows.proofs.Puts.{put_batch}
use Rattle.exec_ordered_rows.proofs.answer.all_places.Goals as goal

pub loop-batch-preserved : goal.loop-batch-preserved
loop-batch-preserved c =
    put_batch c.args.order.now.keys.now c.args.limit c.args.order.now.form c.args.table.now []
    c.loop-batch.batch c.loop-batch.places.items c.in_ok-places.places.items (omega arith)
    c.in_ok-places.ensures.rows c.in_ok-places.ensures.places c.loop-batch.invariant
