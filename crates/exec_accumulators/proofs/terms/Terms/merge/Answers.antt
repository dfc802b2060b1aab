use Rattle.std.proofs.Common.{refl}
use Rattle.exec_accumulators.proofs.Joins.{summed_joined}
use Rattle.exec_accumulators.proofs.terms.Terms.merge.Goals as goal

pub returns-clause-taken : goal.returns-clause-taken
returns-clause-taken c = λ vs ws h j.
    summed_joined _ _ _ _ _ _ _ _ _ _ _ _ vs ws h j c.lesser-self.ensures.rank refl c.saturating_add-self.ensures c.saturating_add-self-2.ensures
