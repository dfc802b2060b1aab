use Rattle.std.proofs.Common.{◌≡◌, take}
use Rattle.base_value.specs.Truth.{standing_rank}
use Rattle.base_columns.specs.Bags.{bag_rows}
use Rattle.base_order_limit.specs.Answers.{least_rank}
use Rattle.exec_ordered_rows.proofs.fault.least_of.Given as goal

abbrev pub invariant-loop-batch : goal.invariant-loop-batch
invariant-loop-batch l =
    standing_rank l.least ≡ least_rank (bag_rows (take l.batch-index l.table))
