use Rattle.expr_conditions.specs.Ranks.{PutImplied}
use Rattle.expr_conditions.proofs.factors.put_common.Given as goal

abbrev pub invariant-loop-e : goal.invariant-loop-e
invariant-loop-e l = PutImplied l.places l.parts l.fn.to l.to
