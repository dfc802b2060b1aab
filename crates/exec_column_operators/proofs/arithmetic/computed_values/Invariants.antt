use Rattle.std.proofs.Common.{◌≡◌, take}
use Rattle.expr_operators.specs.Operators.{computed}
use Rattle.exec_column_operators.specs.Zips.{zip_with}
use Rattle.exec_column_operators.proofs.arithmetic.computed_values.Given as goal

abbrev pub invariant-loop-i : goal.invariant-loop-i
invariant-loop-i l = l.values.items ≡ zip_with (computed l.operator) (take l.i l.a) (take l.i l.b)
