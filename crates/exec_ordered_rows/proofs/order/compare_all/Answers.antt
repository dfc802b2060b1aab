use Rattle.std.proofs.Common.{arith}
use Rattle.exec_ordered_rows.proofs.PlaceOrders.{left_ends, right_ends}
use Rattle.exec_ordered_rows.proofs.order.compare_all.Goals as goal

pub returns-then-j-len : goal.returns-then-j-len
returns-then-j-len c =
    right_ends c.args.x.now c.args.y.now c.loop-j.j (omega arith) (omega arith)
    c.loop-j.invariant.0

pub returns-then-len : goal.returns-then-len
returns-then-len c =
    left_ends c.args.x.now c.args.y.now c.loop-j.j (omega arith) (omega arith) (omega arith)
    c.loop-j.invariant.0
