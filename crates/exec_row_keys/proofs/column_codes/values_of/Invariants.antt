use Rattle.std.proofs.Common.{◌≡◌, take}
use Rattle.exec_row_keys.proofs.column_codes.values_of.Given as goal

abbrev pub invariant-loop-i : goal.invariant-loop-i
invariant-loop-i l = l.values.items ≡ take l.i l.column
