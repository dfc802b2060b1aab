use Rattle.std.proofs.Common.{take}
use Rattle.std.specs.List.{All}
use Rattle.exec_ordered_rows.specs.Cells.{HaveNoFault}
use Rattle.exec_ordered_rows.proofs.batch_cells.are_without_fault.Given as goal

abbrev pub invariant-loop-column : goal.invariant-loop-column
invariant-loop-column l = All HaveNoFault (take l.column-index l.columns)
