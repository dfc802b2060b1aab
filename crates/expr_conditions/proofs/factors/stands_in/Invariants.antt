use Rattle.expr_conditions.proofs.factors.stands_in.Given as goal

abbrev pub invariant-loop-f : goal.invariant-loop-f
invariant-loop-f l = Unit {0}
