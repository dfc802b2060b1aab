use Rattle.std.proofs.Common.{◌≡◌, take}
use Rattle.exec_ordered_rows.proofs.batch_cells.table_of.Given as goal

abbrev pub invariant-loop-batch : goal.invariant-loop-batch
invariant-loop-batch l = l.table.items ≡ take l.batch-index l.batches
