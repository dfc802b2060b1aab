use Rattle.std.proofs.Common.{ap, ◌∙◌}
use Rattle.base_columns.specs.Bags.{bag_rows}
use Rattle.base_columns.proofs.BagLists.{bag_rows-push}
use Rattle.exec_parallel_scan.proofs.parts.put_batch.Goals as goal

pub returns-in_ok-push-clause-rows : goal.returns-in_ok-push-clause-rows
returns-in_ok-push-clause-rows c = ap bag_rows c.in_ok-push.ensures.items ∙ bag_rows-push c.args.batches.now.items c.args.batch
