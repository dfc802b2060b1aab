use Rattle.std.proofs.Common.{length}
use Rattle.base_columns.proofs.batch_builder.+clear_cells.Given as goal

abbrev pub decreases-clear_cells : goal.decreases-clear_cells
decreases-clear_cells l = length l.columns.now
