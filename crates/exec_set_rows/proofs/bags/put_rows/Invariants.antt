use Rattle.std.proofs.Common.{◌≡◌, ◌++◌, take}
use Rattle.base_columns.specs.Bags.{bag_rows}
use Rattle.exec_set_rows.proofs.bags.put_rows.Given as goal

abbrev pub invariant-loop-batch : goal.invariant-loop-batch
invariant-loop-batch l = (l.bag.width ≡ l.initial.bag.width) × (l.bag.rows ≡ l.initial.bag.rows ++ bag_rows (take l.batch-index l.batches))
