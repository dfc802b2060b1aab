use Rattle.std.proofs.Common.{◌≡◌, ◌++◌, drop}
use Rattle.plan_spelling.specs.Plans.{numbers_text}
use Rattle.plan_spelling.proofs.numbers.push_numbers.Given as goal

abbrev pub invariant-loop-number : goal.invariant-loop-number
invariant-loop-number l =
    l.text.items ++ numbers_text (drop l.number-index l.numbers) ≡ l.fn.text.items ++ numbers_text l.numbers
