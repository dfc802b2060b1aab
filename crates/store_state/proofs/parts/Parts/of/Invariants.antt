use Rattle.std.proofs.Common.{◌≡◌, take}
use Rattle.base_columns.specs.Lists.{one_list}
use Rattle.store_state.proofs.parts.Parts.of.Given as goal

abbrev pub invariant-loop-segment : goal.invariant-loop-segment
invariant-loop-segment l = l.parts ≡ one_list (take l.segment-index l.segments)
