use Rattle.std.proofs.Common.{◌≡◌, ◌++◌, drop}
use Rattle.std.specs.List.{flat_map}
use Rattle.plan_spelling.specs.Plans.{value_spelling}
use Rattle.plan_spelling.proofs.nodes.put_values.Given as goal

abbrev pub invariant-loop-value : goal.invariant-loop-value
invariant-loop-value l =
    l.numbers.items ++ flat_map value_spelling (drop l.value-index l.values) ≡ l.fn.numbers.items ++ flat_map value_spelling l.values
