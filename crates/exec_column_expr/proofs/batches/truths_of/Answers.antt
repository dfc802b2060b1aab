use Rattle.exec_column_expr.proofs.Ranks.{ranks_are}
use Rattle.exec_column_expr.proofs.batches.truths_of.Goals as goal

pub returns-clause-ranks : goal.returns-clause-ranks
returns-clause-ranks c = ranks_are c.args.e.now c.args.batch.now.rows c.in_ok-truths.truths.items c.in_ok-truths.ensures.truths
