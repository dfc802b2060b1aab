use Rattle.std.proofs.Common.{◌≡◌, false, take}
use Rattle.std.specs.List.{list_any}
use Rattle.store_state.specs.Parts.{is_between}
use Rattle.store_state.proofs.key_range.KeyRange.has_one_of.Given as goal

abbrev pub invariant-loop-key : goal.invariant-loop-key
invariant-loop-key l = list_any (is_between l.self.least l.self.greatest) (take l.key-index l.keys) ≡ false
