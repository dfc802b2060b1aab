use Rattle.std.proofs.Common.{◌≡◌, take}
use Rattle.base_columns.specs.Batches.{cells}
use Rattle.base_columns.proofs.batch.cells.Given as goal

abbrev pub invariant-loop-column : goal.invariant-loop-column
invariant-loop-column l = l.row.items ≡ cells (take l.column-index l.columns) l.i
