use Rattle.std.proofs.Common.{take}
use Rattle.exec_ordered_rows.specs.Places.{placed_rows, rows_of}
use Rattle.exec_ordered_rows.proofs.Puts.{Put}
use Rattle.exec_ordered_rows.proofs.answer.put_batch.Given as goal

abbrev pub invariant-loop-row : goal.invariant-loop-row
invariant-loop-row l =
    Put l.order.keys.now l.limit l.order.form l.table (placed_rows l.table l.fn.places.items)
    (take l.row (rows_of l.table l.batch)) l.places.items
