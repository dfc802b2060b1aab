use Rattle.std.proofs.Common.{◌≡◌, take}
use Rattle.base_value.specs.Truth.{standing_rank}
use Rattle.base_order_limit.specs.Answers.{least_rank}
use Rattle.exec_ordered_rows.proofs.fault.least_standing.Given as goal

abbrev pub invariant-loop-i : goal.invariant-loop-i
invariant-loop-i l = standing_rank l.least ≡ least_rank (take l.i l.batch.rows)
