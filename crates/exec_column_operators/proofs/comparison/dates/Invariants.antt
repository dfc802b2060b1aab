use Rattle.std.proofs.Common.{◌≡◌, take}
use Rattle.exec_column_operators.specs.Exact.{dates_compared}
use Rattle.exec_column_operators.specs.Zips.{zip_with}
use Rattle.exec_column_operators.proofs.comparison.dates.Given as goal

abbrev pub invariant-loop-i : goal.invariant-loop-i
invariant-loop-i l = l.truths.items ≡ zip_with (dates_compared l.comparison) (take l.i l.xs) (take l.i l.ys)
