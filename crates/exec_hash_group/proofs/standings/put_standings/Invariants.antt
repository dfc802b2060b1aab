use Rattle.std.proofs.Common.{◌≡◌, ◌++◌, take}
use Rattle.exec_hash_group.specs.Standings.{ranks, row_ranks}
use Rattle.exec_hash_group.proofs.standings.put_standings.Given as goal

abbrev pub invariant-loop-i : goal.invariant-loop-i
invariant-loop-i l = ranks l.standings.items ≡ ranks l.initial.standings.items ++ row_ranks (take l.i l.batch.rows)
