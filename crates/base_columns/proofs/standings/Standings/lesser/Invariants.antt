use Rattle.std.proofs.Common.{◌≡◌, take}
use Rattle.base_columns.specs.Standings.{lesser_standings}
use Rattle.base_columns.proofs.standings.Standings.lesser.Given as goal

abbrev pub invariant-loop-i : goal.invariant-loop-i
invariant-loop-i l = l.both.items ≡ lesser_standings (take l.i l.self) (take l.i l.other)
