use Rattle.std.proofs.Common.{sym, ◌∙◌}
use Rattle.exec_accumulators.proofs.DistinctValues.{distinct_put, distinct_null}
use Rattle.exec_accumulators.proofs.distinct.CountDistinctAccumulator.put.Goals as goal

pub returns-then-is_null-clause-taken : goal.returns-then-is_null-clause-taken
returns-then-is_null-clause-taken c = λ aggregate vs h. (h.0, distinct_null _ _ vs c.args.value.now h.1 (sym c.is_null.ensures ∙ c.if-is_null.true))

pub returns-clause-taken : goal.returns-clause-taken
returns-clause-taken c =
    λ aggregate vs h. (h.0, distinct_put _ _ _ _ vs c.args.value.now h.1 (sym c.is_null.ensures ∙ c.if-is_null.false) c.least_with-self.ensures c.in_ok-put_value.ensures)
