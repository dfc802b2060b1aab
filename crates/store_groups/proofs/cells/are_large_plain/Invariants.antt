use Rattle.std.proofs.Common.{◌≡◌, map}
use Rattle.std.specs.Prelude.{drop}
use Rattle.store_groups.specs.Groups.{are_plain}
use Rattle.store_groups.specs.Stored.{cell_in}
use Rattle.store_groups.proofs.cells.are_large_plain.Given as goal

abbrev pub invariant-loop-cell : goal.invariant-loop-cell
invariant-loop-cell l =
    are_plain (map cell_in l.cells) ≡ are_plain (map cell_in (drop l.cell-index l.cells))
