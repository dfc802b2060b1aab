use Rattle.std.proofs.Common.{◌∙◌, ◌+◌, List, ap, arith, length, sym, take}
use Rattle.std.specs.List.{remove}
use lib.ListN.{get_or}
use Rattle.store_groups.specs.Groups.{Cell}
use Rattle.store_groups.specs.Shelves.{groups_in, total}
use Rattle.store_groups.proofs.ShelfLists.{cut_is, full_without, groups_without, place_less}
use Rattle.store_groups.proofs.shelf.Shelf.without.Goals as goal

pub span_of-span-requires-clause-within : goal.span_of-span-requires-clause-within
span_of-span-requires-clause-within c =
    let p = place_less c.self.inside.heads.items c.self.inside.cells c.args.self.now c.args.i c.self.view_is c.requires in
    omega (arith, p, ap length c.as_slice.ensures.value)

pub remove-head-requires : goal.remove-head-requires
remove-head-requires c =
    let p = place_less c.self.inside.heads.items c.self.inside.cells c.args.self.now c.args.i c.self.view_is c.requires in
    omega (arith, p, c.in_ok-heads.heads.ok.0, ap length (c.in_ok-heads.ensures.items ∙ c.as_slice-2.ensures.value))

pub invariant_of-result : goal.invariant_of-result
invariant_of-result c =
    let p = place_less c.self.inside.heads.items c.self.inside.cells c.args.self.now c.args.i c.self.view_is c.requires in
    let heads = c.in_ok-heads.ensures.items ∙ c.as_slice-2.ensures.value in
    ap total (c.remove-head.ensures.items ∙ ap (λ l. remove l c.args.i) heads)
    ∙ full_without c.self.inside.heads.items c.self.inside.cells c.args.i c.span_of-span.result.start c.span_of-span.result.end c.remove-head.result p
    (c.remove-head.ensures.value ∙ ap (λ l. get_or l c.args.i c.remove-head.result) heads) c.self.invariant
    (c.span_of-span.ensures.start ∙ ap (λ l. total (take c.args.i l)) c.as_slice.ensures.value) (c.span_of-span.ensures.end ∙ ap (λ l. total (take (c.args.i + 1) l)) c.as_slice.ensures.value)
    ∙ ap (λ (l : List Cell). length l) (sym (cut_is c.self.inside.cells c.in_ok-cells.cells c.part-before.result c.part-after.result c.span_of-span.result.start c.span_of-span.result.end c.len.result
    c.in_ok-cells.ensures c.part-before.ensures c.part-after.ensures c.len.ensures))

pub returns : goal.returns
returns c =
    let p = place_less c.self.inside.heads.items c.self.inside.cells c.args.self.now c.args.i c.self.view_is c.requires in
    let heads = c.in_ok-heads.ensures.items ∙ c.as_slice-2.ensures.value in
    ap (λ l. groups_in l c.in_ok-cells.cells) (c.remove-head.ensures.items ∙ ap (λ l. remove l c.args.i) heads)
    ∙ ap (λ (l : List Cell). groups_in (remove c.self.inside.heads.items c.args.i) l) (cut_is c.self.inside.cells c.in_ok-cells.cells c.part-before.result c.part-after.result c.span_of-span.result.start c.span_of-span.result.end c.len.result
    c.in_ok-cells.ensures c.part-before.ensures c.part-after.ensures c.len.ensures)
    ∙ groups_without c.self.inside.heads.items c.self.inside.cells c.args.self.now c.args.i c.span_of-span.result.start c.span_of-span.result.end c.remove-head.result c.self.view_is p
    (c.remove-head.ensures.value ∙ ap (λ l. get_or l c.args.i c.remove-head.result) heads) c.self.invariant
    (c.span_of-span.ensures.start ∙ ap (λ l. total (take c.args.i l)) c.as_slice.ensures.value) (c.span_of-span.ensures.end ∙ ap (λ l. total (take (c.args.i + 1) l)) c.as_slice.ensures.value)
