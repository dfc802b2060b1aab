use Rattle.std.proofs.Common.{◌≡◌, take}
use Rattle.std.specs.Prelude.{min}
use Rattle.base_row_laws.specs.Bags.{bottom}
use Rattle.base_value.specs.Truth.{standing_rank}
use Rattle.base_columns.specs.Batches.{row_at}
use Rattle.expr_aggregates.specs.Values.{value_rank}
use Rattle.exec_ordered_rows.proofs.fault.least_of_row.Given as goal

abbrev pub invariant-loop-j : goal.invariant-loop-j
invariant-loop-j l = standing_rank l.least
    ≡ min (row_at l.batch.rows l.i).standing
    (bottom 5 value_rank (take l.j (row_at l.batch.rows l.i).values))
