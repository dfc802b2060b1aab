use Rattle.std.proofs.Common.{refl}
use Rattle.exec_accumulators.proofs.Joins.{summed_put}
use Rattle.exec_accumulators.proofs.terms.Terms.put.Goals as goal

pub returns-clause-taken : goal.returns-clause-taken
returns-clause-taken c = λ vs h.
    summed_put _ _ _ _ _ _ _ _ _ _ _ c.args.value.now vs h c.least_with-self.ensures c.terms_of.ensures.terms refl c.above.ensures c.below.ensures c.saturating_add-self.ensures c.saturating_add-self-2.ensures
