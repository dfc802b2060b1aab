use Rattle.std.proofs.Common.{ap, ◌∙◌}
use Rattle.base_value.specs.Value.{same_value}
use Rattle.exec_accumulators.specs.Accumulators.{added_all}
use Rattle.exec_accumulators.proofs.DistinctValues.{distinct_joined}
use Rattle.exec_accumulators.proofs.distinct.CountDistinctAccumulator.merge.Goals as goal

pub returns-clause-taken : goal.returns-clause-taken
returns-clause-taken c =
    λ aggregate vs ws h j. (
      h.0,
      distinct_joined _ _ _ _ c.args.other.seen _ vs ws h.1 j.1 c.lesser-self.ensures.rank
          (c.in_ok-put_values.ensures ∙ ap (added_all same_value c.args.self.now.seen) c.as_slice.ensures),
    )
