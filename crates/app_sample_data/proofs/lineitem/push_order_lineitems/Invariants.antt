use Rattle.std.proofs.Common.{◌≡◌, ◌++◌}
use Rattle.app_sample_data.specs.Lines.{lines, lineitem_line}
use Rattle.app_sample_data.proofs.lineitem.push_order_lineitems.Given as goal

abbrev pub invariant-loop-line : goal.invariant-loop-line
invariant-loop-line l = l.text.items ++ lines (lineitem_line l.number l.key) l.line l.line-end ≡ l.fn.text.items ++ lines (lineitem_line l.number l.key) 1 l.line-end
