use Rattle.std.proofs.Common.{take}
use Rattle.store_state.specs.Found.{AddsKeys}
use Rattle.store_state.specs.Keys.{order_keys}
use Rattle.store_state.specs.Parts.{left_rows}
use Rattle.store_state.proofs.search.put_orders_of.Given as goal

abbrev pub invariant-loop-key : goal.invariant-loop-key
invariant-loop-key l = AddsKeys (take l.key-index l.wanted) (order_keys (left_rows l.deleted l.segment)) l.initial.keys.items l.keys.items
