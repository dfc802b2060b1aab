use Rattle.std.proofs.Common.{length}
use Rattle.store_machine.proofs.scan.+piece_rows.Given as goal

abbrev pub decreases-piece_rows : goal.decreases-piece_rows
decreases-piece_rows l = length l.pieces.now
