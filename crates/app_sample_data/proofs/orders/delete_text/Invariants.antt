use Rattle.std.proofs.Common.{◌≡◌, ◌++◌}
use Rattle.app_sample_data.specs.Lines.{lines, delete_line}
use Rattle.app_sample_data.proofs.orders.delete_text.Given as goal

abbrev pub invariant-loop-key : goal.invariant-loop-key
invariant-loop-key l = l.text.items ++ lines delete_line l.key l.end ≡ lines delete_line 1 l.end
