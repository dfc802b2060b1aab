use Rattle.std.proofs.Common.{length}
use Rattle.store_groups.proofs.row_values.+put_large.Given as goal

abbrev pub decreases-put_large : goal.decreases-put_large
decreases-put_large l = length l.cells.now
