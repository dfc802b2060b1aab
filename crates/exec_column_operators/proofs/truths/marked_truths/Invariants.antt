use Rattle.std.proofs.Common.{◌≡◌, take, map}
use Rattle.expr_operators.specs.Operators.{truth_of_mark}
use Rattle.exec_column_operators.proofs.truths.marked_truths.Given as goal

abbrev pub invariant-loop-i : goal.invariant-loop-i
invariant-loop-i l = l.truths.items ≡ map truth_of_mark (take l.i l.a)
