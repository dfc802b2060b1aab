use Rattle.std.proofs.Common.{◌≡◌}
use Rattle.std.specs.Prelude.{replicate}
use Rattle.base_decimal.specs.Tally.{no_terms}
use Rattle.base_row_laws.specs.Ranked.{true_rank}
use Rattle.store_groups.specs.Groups.{cell}
use Rattle.store_groups.proofs.cells.no_cells.Given as goal

abbrev pub invariant-loop-i : goal.invariant-loop-i
invariant-loop-i l = l.all.items ≡ replicate l._i (cell true_rank no_terms)
