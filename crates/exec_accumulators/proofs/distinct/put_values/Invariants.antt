use Rattle.std.proofs.Common.{◌≡◌, take}
use Rattle.base_value.specs.Value.{same_value}
use Rattle.exec_accumulators.specs.Accumulators.{added_all}
use Rattle.exec_accumulators.proofs.distinct.put_values.Given as goal

abbrev pub invariant-loop-value : goal.invariant-loop-value
invariant-loop-value l = l.seen ≡ added_all same_value l.initial.seen (take l.value-index l.values)
