use Rattle.std.proofs.Common.{refl, []}
use Rattle.exec_accumulators.proofs.terms.Terms.new.Goals as goal

pub returns-clause-taken : goal.returns-clause-taken
returns-clause-taken c = c.of_sums.ensures.taken [] (record { least = refl; terms = refl; above_is = refl; below_is = refl })
