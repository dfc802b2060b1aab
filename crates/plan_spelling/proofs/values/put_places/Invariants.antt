use Rattle.std.proofs.Common.{◌≡◌, ◌++◌, drop}
use Rattle.plan_spelling.proofs.values.put_places.Given as goal

abbrev pub invariant-loop-place : goal.invariant-loop-place
invariant-loop-place l = l.numbers.items ++ drop l.place-index l.places ≡ l.fn.numbers.items ++ l.places
