use Rattle.std.proofs.Common.{◌≡◌, ◌++◌, take}
use Rattle.store_state.specs.Keys.{order_keys}
use Rattle.store_state.specs.Parts.{left_rows}
use Rattle.store_state.proofs.part.put_order_keys.Given as goal

abbrev pub invariant-loop-i : goal.invariant-loop-i
invariant-loop-i l = l.keys.items ≡ l.initial.keys.items ++ order_keys (left_rows l.deleted (take l.i l.segment))
