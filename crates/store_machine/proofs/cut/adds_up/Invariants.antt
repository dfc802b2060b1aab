use Rattle.std.proofs.Common.{◌≡◌, ◌+◌, drop}
use Rattle.store_machine.specs.Machine.{total}
use Rattle.store_machine.proofs.cut.adds_up.Given as goal

-- what is left of the number has to be the sum of the lengths that are left
abbrev pub invariant-loop-n : goal.invariant-loop-n
invariant-loop-n l = l.count + total (drop l.n-index l.lengths) ≡ l.left + total l.lengths
