use Rattle.std.proofs.Common.{◌≡◌, take}
use Rattle.store_state.proofs.same_rows.are_same_segments.Given as goal

abbrev pub invariant-loop-k : goal.invariant-loop-k
invariant-loop-k l = take l.k l.first ≡ take l.k l.second
