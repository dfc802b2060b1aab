use Rattle.std.proofs.Common.{length}
use Rattle.store_groups.proofs.row_values.+put_small.Given as goal

abbrev pub decreases-put_small : goal.decreases-put_small
decreases-put_small l = length l.cells.now
