use Rattle.std.proofs.Common.{◌≡◌, take}
use Rattle.base_columns.specs.Lists.{one_list}
use Rattle.store_state.specs.Moves.{with_keys}
use Rattle.store_state.proofs.parts.Parts.of_orders.Given as goal

abbrev pub invariant-loop-part : goal.invariant-loop-part
invariant-loop-part l = l.found ≡ with_keys l.keys (one_list (take l.part-index l.parts))
