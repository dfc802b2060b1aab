use Rattle.std.proofs.Common.{◌≡◌, take, map}
use Rattle.expr_operators.specs.Operators.{negative}
use Rattle.exec_column_operators.proofs.values.negative_column.Given as goal

abbrev pub invariant-loop-i : goal.invariant-loop-i
invariant-loop-i l = l.column ≡ map negative (take l.i l.a)
