use Rattle.std.proofs.Common.{false, sym, ◌∙◌}
use Rattle.exec_accumulators.proofs.Firsts.{compared_put}
use Rattle.exec_accumulators.proofs.extreme.LeastAccumulator.put.Goals as goal

pub returns-in_ok-self-clause-taken : goal.returns-in_ok-self-clause-taken
returns-in_ok-self-clause-taken c =
    λ aggregate vs h. (h.0, compared_put false _ _ _ _ c.args.value.now vs h.1 c.least_with-self.ensures (c.if-replaces.ensures ∙ sym c.in_ok-self.ensures))

pub returns-else-replaces-clause-taken : goal.returns-else-replaces-clause-taken
returns-else-replaces-clause-taken c = λ aggregate vs h. (h.0, compared_put false _ _ _ _ c.args.value.now vs h.1 c.least_with-self.ensures c.if-replaces.ensures)
