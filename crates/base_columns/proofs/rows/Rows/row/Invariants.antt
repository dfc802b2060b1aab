use Rattle.std.proofs.Common.{◌≡◌, ◌+◌, length, take}
use Rattle.base_columns.specs.Lists.{one_list}
use Rattle.base_columns.proofs.rows.Rows.row.Given as goal

abbrev pub invariant-loop-segment : goal.invariant-loop-segment
invariant-loop-segment l = l.i ≡ length (one_list (take l.segment-index l.segments)) + l.left
