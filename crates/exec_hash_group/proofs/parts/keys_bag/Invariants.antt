use Rattle.std.proofs.Common.{◌≡◌, take}
use Rattle.exec_hash_group.specs.PartGroups.{part_keys}
use Rattle.exec_hash_group.proofs.parts.keys_bag.Given as goal

abbrev pub invariant-loop-part : goal.invariant-loop-part
invariant-loop-part l = (l.bag.width ≡ l.width) × (l.bag.rows ≡ part_keys (take l.part-index l.parts))
