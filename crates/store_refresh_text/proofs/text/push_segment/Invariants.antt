use Rattle.std.proofs.Common.{◌≡◌, ◌++◌, drop}
use Rattle.store_refresh_text.specs.Text.{rows_text}
use Rattle.store_refresh_text.proofs.text.push_segment.Given as goal

abbrev pub invariant-loop-i : goal.invariant-loop-i
invariant-loop-i l = l.text.items ++ rows_text (drop l.i l.segment) ≡ l.fn.text.items ++ rows_text l.segment
