use Rattle.std.proofs.Common.{take}
use Rattle.exec_row_keys.specs.Keys.{IsFree}
use Rattle.exec_row_keys.proofs.column_codes.is_free.Given as goal

abbrev pub invariant-loop-number : goal.invariant-loop-number
invariant-loop-number l = IsFree (take l.number-index l.numbers) l.free
