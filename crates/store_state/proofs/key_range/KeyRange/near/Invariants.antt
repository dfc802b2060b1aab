use Rattle.std.proofs.Common.{◌≡◌, take}
use Rattle.std.specs.List.{filter}
use Rattle.store_state.specs.Parts.{is_between}
use Rattle.store_state.proofs.key_range.KeyRange.near.Given as goal

abbrev pub invariant-loop-key : goal.invariant-loop-key
invariant-loop-key l = l.near.items ≡ filter (is_between l.self.least l.self.greatest) (take l.key-index l.keys)
