use Rattle.std.proofs.Common.{◌≡◌}
use Rattle.std.specs.Prelude.{take}
use Rattle.base_columns.specs.Batches.{cells}
use Rattle.store_kept_views.proofs.reading.cells_of.Given as goal

abbrev pub invariant-loop-column : goal.invariant-loop-column
invariant-loop-column l = l.values.items ≡ cells (take l.column-index l.columns) l.i
