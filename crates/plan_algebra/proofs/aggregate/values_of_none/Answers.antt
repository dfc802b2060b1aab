use Rattle.std.proofs.Common.{◌∙◌, ap, sym, map, arith}
use Rattle.std.proofs.lemmas.List.{take_all}
use Rattle.plan_algebra.specs.Aggregates.{value_of_none}
use Rattle.plan_algebra.proofs.NoRows.{of_none}
use Rattle.plan_algebra.proofs.aggregate.values_of_none.Goals as goal

pub returns : goal.returns
returns c =
    c.loop-aggregate.invariant ∙ ap (map value_of_none) (take_all c.loop-aggregate.aggregate-index c.args.aggregates.now (omega arith))
    ∙ sym (of_none c.args.aggregates.now)
