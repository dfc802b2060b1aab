use Rattle.std.proofs.Common.{◌≡◌}
use Rattle.std.specs.Prelude.{take}
use Rattle.store_groups.specs.Shelves.{total}
use Rattle.store_groups.proofs.shelf.start_of.Given as goal

abbrev pub invariant-loop-j : goal.invariant-loop-j
invariant-loop-j l = l.start ≡ total (take l.j l.heads)
