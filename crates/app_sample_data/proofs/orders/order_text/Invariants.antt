use Rattle.std.proofs.Common.{◌≡◌, ◌++◌}
use Rattle.app_sample_data.specs.Lines.{lines, order_line}
use Rattle.app_sample_data.proofs.orders.order_text.Given as goal

abbrev pub invariant-loop-key : goal.invariant-loop-key
invariant-loop-key l = l.text.items ++ lines (order_line l.number) l.key l.end ≡ lines (order_line l.number) l.first l.end
