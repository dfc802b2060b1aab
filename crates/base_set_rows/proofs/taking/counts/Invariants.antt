use Rattle.std.proofs.Common.{take}
use Rattle.base_set_rows.specs.Numbered.{AreTimes}
use Rattle.base_set_rows.proofs.taking.counts.Given as goal

abbrev pub invariant-loop-i : goal.invariant-loop-i
invariant-loop-i l = AreTimes (take l.i l.numbers) l.count l.counts.items
