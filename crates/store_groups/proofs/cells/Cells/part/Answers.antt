use Rattle.std.proofs.Common.{◌∙◌, ◌-◌, ap, sym}
use Rattle.std.specs.Prelude.{map}
use Rattle.store_groups.specs.Stored.{cell_in, kept_cells}
use Rattle.store_groups.specs.Shelves.{part_of}
use Rattle.store_groups.proofs.ShelfLists.{map_part}
use Rattle.store_groups.proofs.cells.Cells.part.Goals as goal

pub returns-in-Large : goal.returns-in-Large
returns-in-Large c =
    map_part cell_in c.args.start (c.args.end - c.args.start) c.deref-in-Large.result.now
    ∙ ap (λ l. part_of c.args.start c.args.end (map cell_in l)) c.deref-in-Large.ensures.value
    ∙ ap (λ k. part_of c.args.start c.args.end (kept_cells k)) (sym c.in-Large.is)
    ∙ ap (λ l. part_of c.args.start c.args.end l) c.self.view_is
