use Rattle.std.proofs.Common.{[], take}
use Rattle.base_columns.specs.Bags.{bag_rows}
use Rattle.exec_ordered_rows.proofs.Puts.{Put}
use Rattle.exec_ordered_rows.proofs.answer.all_places.Given as goal

abbrev pub invariant-loop-batch : goal.invariant-loop-batch
invariant-loop-batch l =
    Put l.order.keys.now l.limit l.order.form l.table [] (bag_rows (take l.batch l.table))
    l.places.items
