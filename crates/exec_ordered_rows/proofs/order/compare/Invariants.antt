use Rattle.std.proofs.Common.{◌≡◌, drop}
use Rattle.base_order_limit.specs.Answers.{answer_order}
use Rattle.exec_ordered_rows.proofs.order.compare.Given as goal

abbrev pub invariant-loop-key : goal.invariant-loop-key
invariant-loop-key l = answer_order l.keys l.x l.y ≡ answer_order (drop l.key-index l.keys) l.x l.y
