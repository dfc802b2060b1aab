use Rattle.std.proofs.Common.{◌≡◌, ◌++◌, take}
use Rattle.app_result_text.specs.Answer.{answer_text}
use Rattle.app_sessions.proofs.text.push_rows.Given as goal

abbrev pub invariant-loop-i : goal.invariant-loop-i
invariant-loop-i l = l.text.items ≡ l.fn.text.items ++ answer_text (take l.i l.rows)
