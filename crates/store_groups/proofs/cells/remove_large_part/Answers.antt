use Rattle.std.proofs.Common.{◌∙◌, ◌-◌, ap, arith, length, subst, sym}
use Rattle.std.specs.Prelude.{map}
use borrow.Rule.Slice.PartMut.{put_mid}
use Rattle.std.proofs.lemmas.List.{with_items_is}
use Rattle.store_groups.specs.Stored.{cell_in}
use Rattle.store_groups.specs.Groups.{HaveValues, without_values}
use Rattle.store_groups.specs.Shelves.{part_of, with_part}
use Rattle.store_groups.proofs.ShelfLists.{long_mid, map_part, seen_mid}
use Rattle.store_groups.proofs.cells.remove_large_part.Goals as goal

pub remove_large-requires-clause-have : goal.remove_large-requires-clause-have
remove_large-requires-clause-have c =
    let seen = map_part cell_in c.args.start (c.args.end - c.args.start) c.deref_mut.result.now ∙ ap (λ l. part_of c.args.start c.args.end (map cell_in l)) c.deref_mut.ensures.value in
    subst (λ l. HaveValues l c.args.values.now) (sym seen) c.requires.have

pub returns-clause-removed : goal.returns-clause-removed
returns-clause-removed c =
    ap (λ l. map cell_in l) (with_items_is c.args.cells.now (put_mid c.args.start (c.args.end - c.args.start) c.deref_mut.result.now c.remove_large.new.cells)
    (long_mid c.args.start c.args.end c.deref_mut.result.now c.remove_large.new.cells c.requires.order (omega (arith, c.requires.within, ap length c.deref_mut.ensures.value)) (omega (arith, c.remove_large.auto.cells)) ∙ ap length c.deref_mut.ensures.value ∙ sym c.args.cells.now.ok.0))
    ∙ seen_mid cell_in c.args.start c.args.end c.deref_mut.result.now c.remove_large.new.cells _ c.requires.order (omega (arith, c.requires.within, ap length c.deref_mut.ensures.value)) (c.remove_large.ensures ∙ ap (λ l. without_values l c.args.values.now) (map_part cell_in c.args.start (c.args.end - c.args.start) c.deref_mut.result.now))
    ∙ ap (λ l. with_part c.args.start c.args.end (without_values (part_of c.args.start c.args.end (map cell_in l)) c.args.values.now) (map cell_in l)) c.deref_mut.ensures.value
