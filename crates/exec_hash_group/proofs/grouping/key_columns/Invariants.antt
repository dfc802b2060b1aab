use Rattle.std.proofs.Common.{◌≡◌, take}
use Rattle.exec_hash_group.specs.Keys.{key_columns}
use Rattle.exec_hash_group.proofs.grouping.key_columns.Given as goal

abbrev pub invariant-loop-j : goal.invariant-loop-j
invariant-loop-j l = l.columns.items ≡ key_columns l.bag.rows (take l.j-index l.by)
