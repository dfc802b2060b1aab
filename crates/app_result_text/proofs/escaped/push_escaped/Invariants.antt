use Rattle.std.proofs.Common.{◌≡◌, ◌≤◌, ◌-◌, ◌++◌, drop, take}
use Rattle.app_result_text.specs.Answer.{escaped}
use Rattle.app_result_text.proofs.escaped.push_escaped.Given as goal

abbrev pub invariant-loop-i : goal.invariant-loop-i
invariant-loop-i l = (l.start ≤ l.i)
    × (l.text.items ++ take (l.i - l.start) (drop l.start l.plain) ++ escaped (drop l.i l.plain) ≡ l.fn.text.items ++ escaped l.plain)
