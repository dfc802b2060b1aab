use Rattle.std.proofs.Common.{length}
use Rattle.base_columns.proofs.batch_builder.+put_field_cells.Given as goal

abbrev pub decreases-put_field_cells : goal.decreases-put_field_cells
decreases-put_field_cells l = length l.columns.now
