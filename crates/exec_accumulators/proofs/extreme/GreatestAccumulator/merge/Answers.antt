use Rattle.std.proofs.Common.{true}
use Rattle.exec_accumulators.proofs.Firsts.{compared_joined}
use Rattle.exec_accumulators.proofs.extreme.GreatestAccumulator.merge.Goals as goal

pub returns-then-replaces-clause-taken : goal.returns-then-replaces-clause-taken
returns-then-replaces-clause-taken c = λ aggregate vs ws h j. (h.0, compared_joined true _ _ _ _ _ _ vs ws h.1 j.1 c.lesser-self.ensures.rank c.if-replaces.ensures)

pub returns-else-replaces-clause-taken : goal.returns-else-replaces-clause-taken
returns-else-replaces-clause-taken c = λ aggregate vs ws h j. (h.0, compared_joined true _ _ _ _ _ _ vs ws h.1 j.1 c.lesser-self.ensures.rank c.if-replaces.ensures)
