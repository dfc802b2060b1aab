use Rattle.std.proofs.Common.{◌≡◌, take}
use Rattle.base_value.specs.Truth.{lesser}
use Rattle.exec_column_operators.specs.Zips.{zip_with}
use Rattle.exec_column_operators.proofs.truths.both.Given as goal

abbrev pub invariant-loop-i : goal.invariant-loop-i
invariant-loop-i l = l.truths.items ≡ zip_with lesser (take l.i l.a) (take l.i l.b)
