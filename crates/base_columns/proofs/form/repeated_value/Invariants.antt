use Rattle.std.proofs.Common.{◌≡◌, replicate}
use Rattle.base_columns.proofs.form.repeated_value.Given as goal

abbrev pub invariant-loop-i : goal.invariant-loop-i
invariant-loop-i l = l.values.items ≡ replicate l._i l.value
