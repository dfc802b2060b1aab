use Rattle.std.proofs.Common.{◌≡◌, take, map}
use Rattle.expr_operators.specs.Operators.{at_scale}
use Rattle.exec_column_operators.proofs.values.scaled_column.Given as goal

abbrev pub invariant-loop-i : goal.invariant-loop-i
invariant-loop-i l = l.column ≡ map (at_scale l.scale) (take l.i l.a)
