use Rattle.std.proofs.Common.{take}
use Rattle.plan_join_order.proofs.OfOrs.{AreOred}
use Rattle.plan_join_order.proofs.implied.own_or.Given as goal

abbrev pub invariant-loop-part : goal.invariant-loop-part
invariant-loop-part l = AreOred (take l.part-index l.parts) l.all
