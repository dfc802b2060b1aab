use Rattle.store_state.proofs.LeftRows.{AreLeftUntil}
use Rattle.store_state.proofs.part.left_places.Given as goal

abbrev pub invariant-loop-i : goal.invariant-loop-i
invariant-loop-i l = AreLeftUntil l.deleted l.segment l.i l.places.items
