use Rattle.std.proofs.Common.{◌≡◌, take, map}
use Rattle.base_value.specs.declared.value.Value.TheVariants.{Number, Date}
use Rattle.expr_operators.specs.Operators.{extracted}
use Rattle.exec_column_operators.proofs.values.date_parts.Given as goal

abbrev pub invariant-loop-date : goal.invariant-loop-date
invariant-loop-date l = map (Number 0) l.numbers.items ≡ map (extracted l.part) (map Date (take l.date-index l.dates))
