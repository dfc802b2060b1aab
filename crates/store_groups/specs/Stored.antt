-- What stored cells are seen as.
use Rattle.std.specs.Prelude.{List, map}
use Rattle.base_value.specs.Truth.{standing_rank}
use Rattle.store_groups.specs.declared.cell.Cell.{Cell as Stored}
use Rattle.store_groups.specs.declared.cells.Kept.{Kept}
use Rattle.store_groups.specs.declared.cells.Kept.TheVariants as kept
use Rattle.store_groups.specs.declared.cells.Lent.{Lent}
use Rattle.store_groups.specs.declared.cells.Lent.TheVariants as lent
use Rattle.store_groups.specs.Groups.{Cell, cell}

abbrev pub cell_in : Stored → Cell
cell_in c = cell (standing_rank c.least) c.tally

abbrev pub kept_cells : Kept → List Cell
kept_cells (kept.Small v) = v.items
kept_cells (kept.Large v) = map cell_in v.items

-- where they lie
abbrev pub lent_cells : Lent → List Cell
lent_cells (lent.Small cs) = cs.now
lent_cells (lent.Large cs) = map cell_in cs.now
