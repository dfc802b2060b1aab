use Rattle.base_columns.proofs.BagLists.{column_more}
use Rattle.base_columns.proofs.bag.whole_column.Goals as goal

pub loop-batch-preserved : goal.loop-batch-preserved
loop-batch-preserved c =
    column_more c.args.batches.now c.loop-batch.batch-index c.args.j c.batch-item.result c.loop-batch.whole c.append.new.self c.column.result.now
    c.loop-batch-test.true c.batch-item.is c.loop-batch.invariant c.column.ensures c.in_ok-append.ensures.ok
