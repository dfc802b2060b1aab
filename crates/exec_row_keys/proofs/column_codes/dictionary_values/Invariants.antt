use Rattle.std.proofs.Common.{◌≡◌, take, map}
use Rattle.base_value.specs.declared.value.Value.TheVariants.{Text}
use Rattle.exec_row_keys.proofs.column_codes.dictionary_values.Given as goal

abbrev pub invariant-loop-text : goal.invariant-loop-text
invariant-loop-text l = l.values.items ≡ map Text (take l.text-index l.texts)
