use Rattle.std.proofs.Common.{take}
use Rattle.plan_predicate_sinking.specs.Own.{IsApart}
use Rattle.plan_predicate_sinking.proofs.joined.apart.Given as goal

abbrev pub invariant-loop-e : goal.invariant-loop-e
invariant-loop-e l = IsApart l.closed l.n l.a l.x (take l.e-index l.es) l.parts.covered l.parts.rest
