use Rattle.base_row_laws.proofs.Cells.{same_cell_is, counted_bag}
use Rattle.base_row_laws.specs.Cases.{same_cell}
use Rattle.base_row_laws.proofs.Trees.{unnesting}
use Rattle.base_row_laws.proofs.small_cases.cells_have_identity.Goals as goal

pub returns : goal.returns
returns c = (same_cell_is, counted_bag, unnesting same_cell same_cell_is)
