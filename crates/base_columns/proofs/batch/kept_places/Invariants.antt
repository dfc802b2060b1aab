use Rattle.std.proofs.Common.{take}
use Rattle.base_columns.specs.Selections.{IsKept}
use Rattle.base_columns.proofs.batch.kept_places.Given as goal

abbrev pub invariant-loop-i : goal.invariant-loop-i
invariant-loop-i l = IsKept (take l.i l.standings) (take l.i l.truths) l.places.items l.kept
