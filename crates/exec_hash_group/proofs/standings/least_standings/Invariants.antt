use Rattle.std.proofs.Common.{take}
use Rattle.exec_hash_group.specs.Standings.{ranks, least_of, AreOfNumbers}
use Rattle.exec_hash_group.proofs.standings.least_standings.Given as goal

abbrev pub invariant-loop-i : goal.invariant-loop-i
invariant-loop-i l = AreOfNumbers (least_of (take l.i l.numbers) (take l.i (ranks l.standings))) l.count (ranks l.least.items)
