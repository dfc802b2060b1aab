use Rattle.std.proofs.Common.{◌≡◌, take, map}
use Rattle.base_value.specs.Truth.{negated}
use Rattle.exec_column_operators.proofs.truths.negated_truths.Given as goal

abbrev pub invariant-loop-truth : goal.invariant-loop-truth
invariant-loop-truth l = l.truths.items ≡ map negated (take l.truth-index l.a)
