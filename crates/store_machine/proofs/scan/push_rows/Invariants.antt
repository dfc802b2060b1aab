use Rattle.std.proofs.Common.{◌≡◌, ◌++◌, take}
use Rattle.store_machine.proofs.scan.push_rows.Given as goal

abbrev pub invariant-loop-row : goal.invariant-loop-row
invariant-loop-row l = l.to.items ≡ l.fn.to.items ++ take l.row-index l.rows
