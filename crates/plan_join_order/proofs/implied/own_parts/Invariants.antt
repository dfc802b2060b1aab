use Rattle.std.proofs.Common.{take}
use Rattle.plan_join_order.specs.Implied.{AreImplied}
use Rattle.plan_join_order.proofs.implied.own_parts.Given as goal

abbrev pub invariant-loop-e : goal.invariant-loop-e
invariant-loop-e l = AreImplied (take l.e-index l.es) l.own
