use Rattle.std.proofs.Common.{◌∙◌, ◌+◌, Some, ap, arith, length, sym, take}
use Rattle.store_groups.specs.Shelves.{total}
use Rattle.store_groups.proofs.ShelfLists.{got, place_less}
use Rattle.base_value.specs.Truth.{standing_rank}
use Rattle.store_groups.specs.Groups.{group}
use Rattle.store_groups.proofs.shelf.Shelf.group.Goals as goal

pub span_of-span-requires-clause-within : goal.span_of-span-requires-clause-within
span_of-span-requires-clause-within c =
    let p = place_less c.self.inside.heads.items c.self.inside.cells c.args.self.now c.args.i c.self.view_is c.requires in
    omega (arith, p, ap length c.as_slice.ensures.value)

pub index-head-requires : goal.index-head-requires
index-head-requires c =
    let p = place_less c.self.inside.heads.items c.self.inside.cells c.args.self.now c.args.i c.self.view_is c.requires in
    omega (arith, p, c.self.inside.heads.ok.0)

pub returns : goal.returns
returns c =
    got c.self.inside.heads.items c.self.inside.cells c.args.self.now c.args.i c.index-head.result.now c.span_of-span.result.start c.span_of-span.result.end
    c.self.view_is c.self.invariant
    (place_less c.self.inside.heads.items c.self.inside.cells c.args.self.now c.args.i c.self.view_is c.requires) c.index-head.ensures
    (c.span_of-span.ensures.start ∙ ap (λ l. total (take c.args.i l)) c.as_slice.ensures.value) (c.span_of-span.ensures.end ∙ ap (λ l. total (take (c.args.i + 1) l)) c.as_slice.ensures.value)
    ∙ ap (λ cs. Some (group c.index-head.result.now.rows (standing_rank c.index-head.result.now.least) cs)) (sym c.part-cells.ensures)
    ∙ ap (λ g. Some g) (sym c.new.ensures)
