use Rattle.std.proofs.Common.{◌≡◌, take, map}
use Rattle.expr_operators.specs.Operators.{part_of}
use Rattle.exec_column_operators.proofs.values.part_column.Given as goal

abbrev pub invariant-loop-i : goal.invariant-loop-i
invariant-loop-i l = l.values.items ≡ map (part_of l.from l.count) (take l.i l.a)
