use Rattle.std.proofs.Common.{◌≡◌}
use Rattle.base_columns.specs.Batches.{first_columns}
use Rattle.exec_ordered_rows.proofs.batch_cells.columns_of.Given as goal

abbrev pub invariant-loop-j : goal.invariant-loop-j
invariant-loop-j l = l.columns.items ≡ first_columns l.batch.rows l.j
