use Rattle.std.proofs.Common.{◌≡◌, ◌++◌, map, replicate, take}
use Rattle.exec_hash_group.proofs.filling.put_repeated.Given as goal

abbrev pub invariant-loop-value : goal.invariant-loop-value
invariant-loop-value l = l.columns.items ≡ l.initial.columns.items ++ map (replicate l.n) (take l.value-index l.values)
