use Rattle.std.proofs.Common.{◌≡◌, take}
use Rattle.expr_operators.specs.Operators.{compared}
use Rattle.exec_column_operators.specs.Zips.{zip_with}
use Rattle.exec_column_operators.proofs.comparison.compared_values.Given as goal

abbrev pub invariant-loop-i : goal.invariant-loop-i
invariant-loop-i l = l.truths.items ≡ zip_with (compared l.comparison) (take l.i l.a) (take l.i l.b)
