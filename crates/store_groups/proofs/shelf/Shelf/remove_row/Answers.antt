use Rattle.std.proofs.Common.{◌∙◌, ◌+◌, ◌-◌, ap, arith, length, refl, sym, take}
use Rattle.std.specs.Prelude.{set}
use Rattle.store_groups.specs.Shelves.{groups_in, total}
use Rattle.store_groups.proofs.ShelfLists.{got, long_part, place_less, removed_part, total_kept}
use Rattle.store_groups.proofs.shelf.Shelf.remove_row.Goals as goal

pub span_of-span-requires-clause-within : goal.span_of-span-requires-clause-within
span_of-span-requires-clause-within c =
    let p = place_less c.self.inside.heads.items c.self.inside.cells c.args.self.now c.args.i c.self.view_is c.requires.within in
    omega (arith, p, ap length c.as_slice.ensures.value)

pub index-head-requires : goal.index-head-requires
index-head-requires c =
    let p = place_less c.self.inside.heads.items c.self.inside.cells c.args.self.now c.args.i c.self.view_is c.requires.within in
    omega (arith, p, c.self.inside.heads.ok.0)

pub overflow_sub-head : goal.overflow_sub-head
overflow_sub-head c =
    let h = c.requires.has _ (got c.self.inside.heads.items c.self.inside.cells c.args.self.now c.args.i c.index-head.result.now c.span_of-span.result.start c.span_of-span.result.end
    c.self.view_is c.self.invariant
    (place_less c.self.inside.heads.items c.self.inside.cells c.args.self.now c.args.i c.self.view_is c.requires.within) c.index-head.ensures
    (c.span_of-span.ensures.start ∙ ap (λ l. total (take c.args.i l)) c.as_slice.ensures.value) (c.span_of-span.ensures.end ∙ ap (λ l. total (take (c.args.i + 1) l)) c.as_slice.ensures.value)) in
    omega (arith, h.some)

pub index_mut-requires : goal.index_mut-requires
index_mut-requires c =
    let p = place_less c.self.inside.heads.items c.self.inside.cells c.args.self.now c.args.i c.self.view_is c.requires.within in
    omega (arith, p, c.self.inside.heads.ok.0)

pub remove_values-requires-clause-long : goal.remove_values-requires-clause-long
remove_values-requires-clause-long c =
    long_part c.self.inside.heads.items c.self.inside.cells c.args.self.now c.args.i c.index-head.result.now c.span_of-span.result.start c.span_of-span.result.end
    c.self.view_is c.self.invariant
    (place_less c.self.inside.heads.items c.self.inside.cells c.args.self.now c.args.i c.self.view_is c.requires.within) c.index-head.ensures
    (c.span_of-span.ensures.start ∙ ap (λ l. total (take c.args.i l)) c.as_slice.ensures.value) (c.span_of-span.ensures.end ∙ ap (λ l. total (take (c.args.i + 1) l)) c.as_slice.ensures.value)
    (length c.args.arguments.now) c.requires.long

pub remove_values-requires-clause-have : goal.remove_values-requires-clause-have
remove_values-requires-clause-have c =
    (c.requires.has _ (got c.self.inside.heads.items c.self.inside.cells c.args.self.now c.args.i c.index-head.result.now c.span_of-span.result.start c.span_of-span.result.end
    c.self.view_is c.self.invariant
    (place_less c.self.inside.heads.items c.self.inside.cells c.args.self.now c.args.i c.self.view_is c.requires.within) c.index-head.ensures
    (c.span_of-span.ensures.start ∙ ap (λ l. total (take c.args.i l)) c.as_slice.ensures.value) (c.span_of-span.ensures.end ∙ ap (λ l. total (take (c.args.i + 1) l)) c.as_slice.ensures.value))).each

pub invariant_of-self : goal.invariant_of-self
invariant_of-self c =
    total_kept c.self.inside.heads.items c.self.inside.cells c.args.self.now c.args.i c.index-head.result.now c.span_of-span.result.start c.span_of-span.result.end
    c.self.view_is c.self.invariant
    (place_less c.self.inside.heads.items c.self.inside.cells c.args.self.now c.args.i c.self.view_is c.requires.within) c.index-head.ensures
    (c.span_of-span.ensures.start ∙ ap (λ l. total (take c.args.i l)) c.as_slice.ensures.value) (c.span_of-span.ensures.end ∙ ap (λ l. total (take (c.args.i + 1) l)) c.as_slice.ensures.value)
    (record { rows = c.index-head.result.now.rows - 1; least = c.index-head.result.now.least; count = c.index-head.result.now.count }) refl ∙ sym c.remove_values.ensures.long

pub returns : goal.returns
returns c g at =
    ap (λ l. groups_in (set c.self.inside.heads.items c.args.i (record { rows = c.index-head.result.now.rows - 1; least = c.index-head.result.now.least; count = c.index-head.result.now.count })) l) c.remove_values.ensures.removed
    ∙ removed_part c.self.inside.heads.items c.self.inside.cells c.args.self.now c.args.i c.index-head.result.now c.span_of-span.result.start c.span_of-span.result.end
    c.self.view_is c.self.invariant
    (place_less c.self.inside.heads.items c.self.inside.cells c.args.self.now c.args.i c.self.view_is c.requires.within) c.index-head.ensures
    (c.span_of-span.ensures.start ∙ ap (λ l. total (take c.args.i l)) c.as_slice.ensures.value) (c.span_of-span.ensures.end ∙ ap (λ l. total (take (c.args.i + 1) l)) c.as_slice.ensures.value)
    (record { rows = c.index-head.result.now.rows - 1; least = c.index-head.result.now.least; count = c.index-head.result.now.count }) c.args.arguments.now refl refl refl g at
