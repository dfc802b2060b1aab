use Rattle.std.proofs.Common.{take}
use Rattle.expr_conditions.specs.Ranks.{PutAll}
use Rattle.expr_conditions.proofs.conjuncts.+put.Given as goal

abbrev pub invariant-put_conditions-loop-e : goal.invariant-put_conditions-loop-e
invariant-put_conditions-loop-e l = PutAll l.places (take l.e-index l.es) l.fn.to l.to
