use Rattle.store_machine.proofs.cut.+piece.Given as goal

abbrev pub decreases-piece : goal.decreases-piece
decreases-piece l = l.number
