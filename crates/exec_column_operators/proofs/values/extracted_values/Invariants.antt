use Rattle.std.proofs.Common.{◌≡◌, take, map}
use Rattle.expr_operators.specs.Operators.{extracted}
use Rattle.exec_column_operators.proofs.values.extracted_values.Given as goal

abbrev pub invariant-loop-i : goal.invariant-loop-i
invariant-loop-i l = l.values.items ≡ map (extracted l.part) (take l.i l.a)
