use Rattle.std.proofs.Common.{◌≡◌, take}
use Rattle.base_columns.specs.Bags.{bag_rows}
use Rattle.exec_hash_group.proofs.parts.shared_bag.Given as goal

abbrev pub invariant-loop-batch : goal.invariant-loop-batch
invariant-loop-batch l = (l.bag.width ≡ l.width) × (l.bag.rows ≡ bag_rows (take l.batch-index l.batches))
