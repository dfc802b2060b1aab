use Rattle.std.proofs.Common.{◌≡◌, take, map}
use Rattle.base_value.specs.declared.value.Value.TheVariants.{Text}
use Rattle.expr_operators.specs.Operators.{compared}
use Rattle.exec_column_operators.proofs.texts.compared_texts.Given as goal

abbrev pub invariant-loop-text : goal.invariant-loop-text
invariant-loop-text l = l.truths.items ≡ map (λ t. compared l.comparison (Text t) (Text l.one)) (take l.text-index l.texts)
