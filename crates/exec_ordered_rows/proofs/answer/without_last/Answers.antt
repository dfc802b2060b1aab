use Rattle.std.specs.Prelude.{Some}
use Rattle.exec_ordered_rows.specs.Places.{placed_rows}
use Rattle.exec_ordered_rows.proofs.Limits.{cut_is_enough}
use Rattle.exec_ordered_rows.proofs.answer.without_last.Goals as goal

pub returns-in_ok-places-in-Some-clause-rows : goal.returns-in_ok-places-in-Some-clause-rows
returns-in_ok-places-in-Some-clause-rows c =
    rw c.in-Some.is
    (cut_is_enough c.args.order.now.keys.now (Some c.in-Some.most)
    (placed_rows c.args.table.now c.args.places.items)
    (placed_rows c.args.table.now c.in_ok-places-in-Some.places.items)
    c.in_ok-places-in-Some.ensures.rows)
