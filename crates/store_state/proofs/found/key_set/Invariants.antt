use Rattle.std.proofs.Common.{take}
use Rattle.store_state.specs.Found.{HasSameKeys}
use Rattle.store_state.proofs.found.key_set.Given as goal

abbrev pub invariant-loop-key : goal.invariant-loop-key
invariant-loop-key l = HasSameKeys l.set (take l.key-index l.keys)
