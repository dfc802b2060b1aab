use Rattle.std.proofs.Common.{◌∙◌, ◌+◌, ap, arith, length, sym, take}
use Rattle.store_groups.specs.Shelves.{total}
use Rattle.store_groups.proofs.ShelfLists.{long_part, many_after, place_less, put_part, total_kept}
use Rattle.store_groups.proofs.shelf.Shelf.put_row.Goals as goal
use Rattle.base_value.specs.Truth.{standing_rank}
use Rattle.std.specs.Prelude.{set}
use Rattle.store_groups.specs.Shelves.{groups_in}

pub span_of-span-requires-clause-within : goal.span_of-span-requires-clause-within
span_of-span-requires-clause-within c =
    let p = place_less c.self.inside.heads.items c.self.inside.cells c.args.self.now c.args.i c.self.view_is c.requires.within in
    omega (arith, p, ap length c.as_slice.ensures.value)

pub index-requires : goal.index-requires
index-requires c =
    let p = place_less c.self.inside.heads.items c.self.inside.cells c.args.self.now c.args.i c.self.view_is c.requires.within in
    omega (arith, p, c.self.inside.heads.ok.0)

pub index_mut-requires : goal.index_mut-requires
index_mut-requires c =
    let p = place_less c.self.inside.heads.items c.self.inside.cells c.args.self.now c.args.i c.self.view_is c.requires.within in
    omega (arith, p, c.self.inside.heads.ok.0)

pub put_values-requires-clause-long : goal.put_values-requires-clause-long
put_values-requires-clause-long c =
    long_part c.self.inside.heads.items c.self.inside.cells c.args.self.now c.args.i c.index.result.now c.span_of-span.result.start c.span_of-span.result.end
    c.self.view_is c.self.invariant
    (place_less c.self.inside.heads.items c.self.inside.cells c.args.self.now c.args.i c.self.view_is c.requires.within) c.index.ensures
    (c.span_of-span.ensures.start ∙ ap (λ l. total (take c.args.i l)) c.as_slice.ensures.value) (c.span_of-span.ensures.end ∙ ap (λ l. total (take (c.args.i + 1) l)) c.as_slice.ensures.value)
    (length c.args.arguments.now) c.requires.long

pub invariant_of-self : goal.invariant_of-self
invariant_of-self c =
    total_kept c.self.inside.heads.items c.self.inside.cells c.args.self.now c.args.i c.index.result.now c.span_of-span.result.start c.span_of-span.result.end
    c.self.view_is c.self.invariant
    (place_less c.self.inside.heads.items c.self.inside.cells c.args.self.now c.args.i c.self.view_is c.requires.within) c.index.ensures
    (c.span_of-span.ensures.start ∙ ap (λ l. total (take c.args.i l)) c.as_slice.ensures.value) (c.span_of-span.ensures.end ∙ ap (λ l. total (take (c.args.i + 1) l)) c.as_slice.ensures.value)
    c.put.new.self c.put.ensures.count ∙ sym c.put_values.ensures.long

pub invariant_of-self-2 : goal.invariant_of-self-2
invariant_of-self-2 c =
    total_kept c.self.inside.heads.items c.self.inside.cells c.args.self.now c.args.i c.index.result.now c.span_of-span.result.start c.span_of-span.result.end
    c.self.view_is c.self.invariant
    (place_less c.self.inside.heads.items c.self.inside.cells c.args.self.now c.args.i c.self.view_is c.requires.within) c.index.ensures
    (c.span_of-span.ensures.start ∙ ap (λ l. total (take c.args.i l)) c.as_slice.ensures.value) (c.span_of-span.ensures.end ∙ ap (λ l. total (take (c.args.i + 1) l)) c.as_slice.ensures.value)
    c.put.new.self c.put.ensures.count ∙ sym c.put_values.ensures.long

pub returns-in_err-put_values-clause-many : goal.returns-in_err-put_values-clause-many
returns-in_err-put_values-clause-many c =
    many_after c.self.inside.heads.items c.self.inside.cells _ c.args.self.now c.args.i c.put.new.self c.self.view_is

pub returns-clause-many : goal.returns-clause-many
returns-clause-many c =
    many_after c.self.inside.heads.items c.self.inside.cells _ c.args.self.now c.args.i c.put.new.self c.self.view_is

pub returns-clause-set : goal.returns-clause-set
returns-clause-set c g at =
    ap (λ l. groups_in (set c.self.inside.heads.items c.args.i c.put.new.self) l) c.in_ok-put_values.ensures.put
    ∙ put_part c.self.inside.heads.items c.self.inside.cells c.args.self.now c.args.i c.index.result.now c.span_of-span.result.start c.span_of-span.result.end
    c.self.view_is c.self.invariant
    (place_less c.self.inside.heads.items c.self.inside.cells c.args.self.now c.args.i c.self.view_is c.requires.within) c.index.ensures
    (c.span_of-span.ensures.start ∙ ap (λ l. total (take c.args.i l)) c.as_slice.ensures.value) (c.span_of-span.ensures.end ∙ ap (λ l. total (take (c.args.i + 1) l)) c.as_slice.ensures.value)
    c.put.new.self c.args.arguments.now (standing_rank c.args.standing) c.put.ensures.count c.in_ok-put.ensures.rows c.in_ok-put.ensures.least g at
