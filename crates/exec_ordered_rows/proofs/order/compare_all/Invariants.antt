use Rattle.std.proofs.Common.{◌≡◌, ◌≤◌, drop, length}
use Rattle.base_value.specs.Value.{row_cmp}
use Rattle.exec_ordered_rows.proofs.order.compare_all.Given as goal

abbrev pub invariant-loop-j : goal.invariant-loop-j
invariant-loop-j l = (row_cmp l.x l.y ≡ row_cmp (drop l.j l.x) (drop l.j l.y)) × (l.j ≤ length l.y)
