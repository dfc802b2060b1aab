use Rattle.std.proofs.Common.{◌≡◌, ◌++◌, take}
use Rattle.base_columns.proofs.marked_form.MarkedForm.push_all.Given as goal

abbrev pub invariant-loop-i : goal.invariant-loop-i
invariant-loop-i l = l.self ≡ l.initial.self ++ take l.i l.other
