use Rattle.std.proofs.Common.{length}
use Rattle.store_groups.proofs.row_values.+remove_large.Given as goal

abbrev pub decreases-remove_large : goal.decreases-remove_large
decreases-remove_large l = length l.cells.now
