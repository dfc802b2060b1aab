use Rattle.std.proofs.Common.{List, ℤ, ◌++◌, take}
use Rattle.store_state.specs.Found.{TellsKeys}
use Rattle.store_state.proofs.found.find_orders.Given as goal

abbrev pub invariant-loop-key : goal.invariant-loop-key
invariant-loop-key l = (before : List ℤ) → TellsKeys l.wanted before l.initial.found → TellsKeys l.wanted (before ++ take l.key-index l.keys) l.found
