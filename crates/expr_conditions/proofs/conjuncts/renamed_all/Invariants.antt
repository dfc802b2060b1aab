use Rattle.std.proofs.Common.{take}
use Rattle.expr_conditions.specs.Ranks.{AreRenamed}
use Rattle.expr_conditions.proofs.conjuncts.renamed_all.Given as goal

abbrev pub invariant-loop-e : goal.invariant-loop-e
invariant-loop-e l = AreRenamed l.places (take l.e-index l.es) l.all
