use Rattle.std.proofs.Common.{◌≡◌, false, take}
use Rattle.store_state.specs.Keys.{has_key}
use Rattle.store_state.proofs.keys.is_one_of.Given as goal

abbrev pub invariant-loop-other : goal.invariant-loop-other
invariant-loop-other l = has_key (take l.other-index l.keys) l.key ≡ false
