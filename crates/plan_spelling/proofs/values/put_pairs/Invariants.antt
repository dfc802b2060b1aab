use Rattle.std.proofs.Common.{◌≡◌, ◌++◌, drop}
use Rattle.plan_spelling.specs.Plans.{pair_numbers}
use Rattle.plan_spelling.proofs.values.put_pairs.Given as goal

abbrev pub invariant-loop-pair : goal.invariant-loop-pair
invariant-loop-pair l =
    l.numbers.items ++ pair_numbers (drop l.pair-index l.pairs) ≡ l.fn.numbers.items ++ pair_numbers l.pairs
