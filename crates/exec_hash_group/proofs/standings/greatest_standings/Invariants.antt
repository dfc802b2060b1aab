use Rattle.std.proofs.Common.{take, get_or, length}
use Rattle.std.specs.Prelude.{max}
use Rattle.exec_hash_group.specs.Standings.{ranks, greatest_of, AreOfNumbers}
use Rattle.exec_hash_group.proofs.standings.greatest_standings.Given as goal

abbrev pub invariant-loop-i : goal.invariant-loop-i
invariant-loop-i l =
    AreOfNumbers (λ n. max (get_or (ranks l.standings) (get_or l.firsts n 0) 0) (greatest_of (take l.i l.numbers) (take l.i (ranks l.standings)) n)) (length l.firsts) (ranks l.greatest.items)
