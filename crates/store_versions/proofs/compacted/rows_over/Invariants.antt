use Rattle.std.proofs.Common.{◌≡◌, take}
use Rattle.base_columns.specs.Lists.{one_list}
use Rattle.store_versions.proofs.compacted.rows_over.Given as goal

abbrev pub invariant-loop-segment : goal.invariant-loop-segment
invariant-loop-segment l = l.rows ≡ one_list (take l.segment-index l.segments)
