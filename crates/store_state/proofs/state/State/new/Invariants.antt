use Rattle.std.proofs.Common.{◌≡◌, take}
use Rattle.store_state.proofs.state.State.new.Given as goal

abbrev pub invariant-loop-rows : goal.invariant-loop-rows
invariant-loop-rows l = l.all.items ≡ take l.rows-index l.rows-items
