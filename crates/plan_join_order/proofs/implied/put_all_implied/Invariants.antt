use Rattle.plan_join_order.specs.Implied.{AreImplied}
use Rattle.plan_join_order.proofs.implied.put_all_implied.Given as goal

abbrev pub invariant-loop-e : goal.invariant-loop-e
invariant-loop-e l = AreImplied l.es l.fn.to → AreImplied l.es l.to
