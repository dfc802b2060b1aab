use Rattle.std.proofs.Common.{◌≡◌, take}
use Rattle.exec_column_operators.specs.Choices.{choice}
use Rattle.exec_column_operators.specs.Zips.{zip_three}
use Rattle.exec_column_operators.proofs.values.chosen_column.Given as goal

abbrev pub invariant-loop-i : goal.invariant-loop-i
invariant-loop-i l = l.column ≡ zip_three choice (take l.i l.truths) (take l.i l.gives) (take l.i l.rest)
