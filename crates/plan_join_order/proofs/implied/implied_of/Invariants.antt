use Rattle.plan_join_order.specs.Implied.{AreImplied}
use Rattle.plan_join_order.proofs.implied.implied_of.Given as goal

abbrev pub invariant-loop-input : goal.invariant-loop-input
invariant-loop-input l = AreImplied l.es l.all
