use Rattle.std.proofs.Common.{take}
use Rattle.exec_ordered_rows.specs.Cells.{AreTexts}
use Rattle.exec_ordered_rows.proofs.column_cells.are_texts.Given as goal

abbrev pub invariant-loop-i : goal.invariant-loop-i
invariant-loop-i l = AreTexts (take l.i l.column)
