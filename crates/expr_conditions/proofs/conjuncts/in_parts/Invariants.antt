use Rattle.std.proofs.Common.{take}
use Rattle.expr_conditions.specs.Ranks.{IsParted}
use Rattle.expr_conditions.proofs.conjuncts.in_parts.Given as goal

abbrev pub invariant-loop-e : goal.invariant-loop-e
invariant-loop-e l = IsParted l.places l.limit (take l.e-index l.es) l.parts.covered l.parts.rest
