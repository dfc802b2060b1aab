use Rattle.std.proofs.Common.{◌≡◌}
use Rattle.std.specs.Prelude.{drop}
use Rattle.store_groups.specs.Groups.{are_plain}
use Rattle.store_groups.proofs.cells.are_small_plain.Given as goal

abbrev pub invariant-loop-cell : goal.invariant-loop-cell
invariant-loop-cell l = are_plain l.cells ≡ are_plain (drop l.cell-index l.cells)
