use Rattle.std.proofs.Common.{refl}
use Rattle.exec_accumulators.proofs.Joins.{counted_joined}
use Rattle.exec_accumulators.proofs.count.CountAccumulator.merge.Goals as goal

pub returns-clause-taken : goal.returns-clause-taken
returns-clause-taken c = λ aggregate vs ws h j. (h.0, counted_joined _ _ _ _ _ _ vs ws h.1 j.1 c.lesser-self.ensures.rank refl)
