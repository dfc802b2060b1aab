use Rattle.std.proofs.Common.{◌≡◌, length, take}
use Rattle.exec_hash_group.specs.Filled.{places_from}
use Rattle.exec_hash_group.proofs.filling.filled_places.Given as goal

abbrev pub invariant-loop-i : goal.invariant-loop-i
invariant-loop-i l = l.places.items ≡ places_from (length l.right) (take l.i l.left) l.right
