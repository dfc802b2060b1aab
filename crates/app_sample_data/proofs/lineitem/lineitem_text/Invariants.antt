use Rattle.std.proofs.Common.{◌≡◌, ◌++◌}
use Rattle.app_sample_data.specs.Lines.{lines, order_lineitems}
use Rattle.app_sample_data.proofs.lineitem.lineitem_text.Given as goal

abbrev pub invariant-loop-key : goal.invariant-loop-key
invariant-loop-key l = l.text.items ++ lines (order_lineitems l.number) l.key l.end ≡ lines (order_lineitems l.number) l.first l.end
