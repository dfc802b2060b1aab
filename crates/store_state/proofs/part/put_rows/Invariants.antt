use Rattle.std.proofs.Common.{◌≡◌, ◌++◌, take}
use Rattle.store_state.specs.Parts.{left_rows}
use Rattle.store_state.proofs.part.put_rows.Given as goal

abbrev pub invariant-loop-i : goal.invariant-loop-i
invariant-loop-i l = l.rows.items ≡ l.initial.rows.items ++ left_rows l.deleted (take l.i l.segment)
