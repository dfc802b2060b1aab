use Rattle.std.proofs.Common.{◌≡◌, take}
use Rattle.base_value.specs.declared.truth.Truth.TheVariants.{False}
use Rattle.base_columns.specs.Lists.{gathered}
use Rattle.exec_column_operators.proofs.texts.by_code.Given as goal

abbrev pub invariant-loop-code : goal.invariant-loop-code
invariant-loop-code l = l.truths.items ≡ gathered False l.table (take l.code-index l.codes)
