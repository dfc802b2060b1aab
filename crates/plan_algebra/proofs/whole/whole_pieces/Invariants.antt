use Rattle.std.proofs.Common.{◌≡◌, take}
use Rattle.base_columns.specs.Lists.{one_list}
use Rattle.plan_algebra.proofs.whole.whole_pieces.Given as goal

abbrev pub invariant-loop-segment : goal.invariant-loop-segment
invariant-loop-segment l = one_list l.pieces.items ≡ one_list (take l.segment-index l.segments)
