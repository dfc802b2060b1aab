use Rattle.std.proofs.Common.{length}
use Rattle.store_groups.proofs.row_values.+remove_small.Given as goal

abbrev pub decreases-remove_small : goal.decreases-remove_small
decreases-remove_small l = length l.cells.now
