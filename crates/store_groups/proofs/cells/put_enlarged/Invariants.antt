use Rattle.std.proofs.Common.{◌≡◌, ◌++◌, map}
use Rattle.std.specs.Prelude.{take}
use Rattle.store_groups.specs.Stored.{cell_in}
use Rattle.store_groups.proofs.cells.put_enlarged.Given as goal

abbrev pub invariant-loop-cell : goal.invariant-loop-cell
invariant-loop-cell l = map cell_in l.all.items ≡ map cell_in l.initial.all.items ++ take l.cell-index l.cells
