use Rattle.std.proofs.Common.{◌≡◌, take}
use Rattle.exec_hash_group.specs.Unmarked.{unmarked}
use Rattle.exec_hash_group.proofs.unmarked.unmarked.Given as goal

abbrev pub invariant-loop-i : goal.invariant-loop-i
invariant-loop-i g l = l.out.items ≡ unmarked l.marks (take l.i l.items)
