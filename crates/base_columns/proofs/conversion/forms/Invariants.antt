use Rattle.std.proofs.Common.{◌≡◌, length}
use Rattle.base_columns.proofs.conversion.forms.Given as goal

abbrev pub invariant-loop-value : goal.invariant-loop-value
invariant-loop-value l = length l.forms.items ≡ l.value-index
