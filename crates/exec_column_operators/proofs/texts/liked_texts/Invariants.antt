use Rattle.std.proofs.Common.{◌≡◌, take, map}
use Rattle.base_value.specs.declared.value.Value.TheVariants.{Text}
use Rattle.expr_operators.specs.Operators.{liked}
use Rattle.exec_column_operators.proofs.texts.liked_texts.Given as goal

abbrev pub invariant-loop-text : goal.invariant-loop-text
invariant-loop-text l = l.truths.items ≡ map (λ t. liked l.pattern (Text t)) (take l.text-index l.texts)
