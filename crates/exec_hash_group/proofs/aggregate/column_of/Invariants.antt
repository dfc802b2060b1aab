use Rattle.std.proofs.Common.{◌≡◌, take}
use Rattle.exec_hash_group.proofs.aggregate.column_of.Given as goal

abbrev pub invariant-loop-value : goal.invariant-loop-value
invariant-loop-value l = l.builder ≡ take l.value-index l.values
