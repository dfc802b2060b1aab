use Rattle.std.proofs.Common.{take}
use Rattle.plan_join_order.specs.Narrow.{AreAsked}
use Rattle.plan_join_order.proofs.narrow.asked_all.Given as goal

abbrev pub invariant-loop-e : goal.invariant-loop-e
invariant-loop-e l = AreAsked l.places (take l.e-index l.es) l.all
