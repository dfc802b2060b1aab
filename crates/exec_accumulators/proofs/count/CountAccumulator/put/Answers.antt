use Rattle.std.proofs.Common.{refl}
use Rattle.exec_accumulators.proofs.Joins.{counted_put}
use Rattle.exec_accumulators.proofs.count.CountAccumulator.put.Goals as goal

pub returns-clause-taken : goal.returns-clause-taken
returns-clause-taken c = λ aggregate vs h. (h.0, counted_put _ _ _ _ _ c.args.value.now vs h.1 c.least_with-self.ensures c.terms_of.ensures.terms refl)
