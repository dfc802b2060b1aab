use Rattle.std.proofs.Common.{◌≡◌, take}
use Rattle.plan_algebra.proofs.copy.copy_exprs.Given as goal

abbrev pub invariant-loop-e : goal.invariant-loop-e
invariant-loop-e l = l.all ≡ take l.e-index l.es
