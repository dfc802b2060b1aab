use Rattle.std.proofs.Common.{◌≡◌, ◌++◌, replicate}
use Rattle.base_set_rows.proofs.taking.put_copies.Given as goal

abbrev pub invariant-loop : goal.invariant-loop
invariant-loop l = l.numbers.items ≡ l.initial.numbers.items ++ replicate l.counter l.number
