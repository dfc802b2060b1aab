use Rattle.base_columns.proofs.BagLists.{standings_more}
use Rattle.base_columns.proofs.bag.whole_standings.Goals as goal

pub loop-batch-preserved : goal.loop-batch-preserved
loop-batch-preserved c =
    standings_more c.args.batches.now c.loop-batch.batch-index c.batch-item.result c.loop-batch.whole c.append.new.self c.standings.result.now
    c.loop-batch-test.true c.batch-item.is c.loop-batch.invariant c.standings.ensures c.in_ok-append.ensures
