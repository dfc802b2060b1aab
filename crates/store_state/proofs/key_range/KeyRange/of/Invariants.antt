use Rattle.std.proofs.Common.{◌≡◌, true, take}
use Rattle.store_state.specs.Parts.{Ascend, AreBetween}
use Rattle.store_state.proofs.key_range.KeyRange.of.Given as goal

abbrev pub invariant-loop-i : goal.invariant-loop-i
invariant-loop-i l =
    AreBetween l.range.least l.range.greatest (take l.i l.segment) × (l.range.ascends ≡ true → Ascend l.i l.segment)
