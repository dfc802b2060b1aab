use Rattle.std.proofs.Common.{◌≡◌, take}
use Rattle.base_columns.proofs.marked_form.MarkedForm.widened.Given as goal

abbrev pub invariant-loop-i : goal.invariant-loop-i
invariant-loop-i l = l.values.items ≡ take l.i l.self
