use Rattle.std.proofs.Common.{◌≡◌, take}
use Rattle.exec_column_operators.specs.Exact.{number_compared}
use Rattle.exec_column_operators.specs.Zips.{zip_with}
use Rattle.exec_column_operators.proofs.comparison.numbers.Given as goal

abbrev pub invariant-loop-i : goal.invariant-loop-i
invariant-loop-i l = l.truths.items ≡ zip_with (λ x y. number_compared l.comparison l.s x l.t y) (take l.i l.xs) (take l.i l.ys)
