use Rattle.exec_key_parts.specs.KeyParts.{key_part}
use Rattle.exec_key_parts.proofs.PartSteps.{Seen}
use Rattle.exec_key_parts.proofs.leaders.part_leaders.Given as goal

abbrev pub invariant-loop-place : goal.invariant-loop-place
invariant-loop-place g l = Seen g.K.PartialEq.eq (key_part g.K.Hash.hash_input l.count) l.part l.keys l.place l.seen l.firsts.items l.leaders.items
