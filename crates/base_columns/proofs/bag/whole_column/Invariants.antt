use Rattle.std.proofs.Common.{◌≡◌, take}
use Rattle.base_columns.specs.Bags.{bag_rows}
use Rattle.base_columns.specs.Batches.{column_at}
use Rattle.base_columns.proofs.bag.whole_column.Given as goal

abbrev pub invariant-loop-batch : goal.invariant-loop-batch
invariant-loop-batch l = l.whole ≡ column_at (bag_rows (take l.batch-index l.batches)) l.j
