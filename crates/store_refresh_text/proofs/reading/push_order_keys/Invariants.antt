use Rattle.std.proofs.Common.{◌≡◌, ◌++◌, drop}
use Rattle.store_state.specs.Keys.{order_keys}
use Rattle.store_refresh_text.proofs.reading.push_order_keys.Given as goal

abbrev pub invariant-loop-row : goal.invariant-loop-row
invariant-loop-row l = l.keys.items ++ order_keys (drop l.row-index l.rows) ≡ l.fn.keys.items ++ order_keys l.rows
