use Rattle.std.proofs.Common.{◌≡◌, take}
use Rattle.base_columns.specs.Lists.{one_list}
use Rattle.base_columns.specs.Tables.{standing_rows}
use Rattle.base_columns.proofs.bag.Bag.from_rows.Given as goal

abbrev pub invariant-loop-segment : goal.invariant-loop-segment
invariant-loop-segment l = (l.bag.width ≡ l.width) × (l.bag.rows ≡ standing_rows (one_list (take l.segment-index l.segments)))
