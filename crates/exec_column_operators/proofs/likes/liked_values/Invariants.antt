use Rattle.std.proofs.Common.{◌≡◌, take, map}
use Rattle.expr_operators.specs.Operators.{liked}
use Rattle.exec_column_operators.proofs.likes.liked_values.Given as goal

abbrev pub invariant-loop-i : goal.invariant-loop-i
invariant-loop-i l = l.truths.items ≡ map (liked l.pattern) (take l.i l.a)
