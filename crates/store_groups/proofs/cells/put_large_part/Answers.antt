use Rattle.std.proofs.Common.{◌∙◌, ◌-◌, ap, arith, length, sym}
use Rattle.std.specs.Prelude.{map}
use borrow.Rule.Slice.PartMut.{put_mid}
use Rattle.std.proofs.lemmas.List.{with_items_is}
use Rattle.store_groups.specs.Stored.{cell_in}
use Rattle.store_groups.specs.Groups.{with_values}
use Rattle.store_groups.specs.Shelves.{part_of, with_part}
use Rattle.store_groups.proofs.ShelfLists.{long_mid, map_part, seen_mid}
use Rattle.store_groups.proofs.cells.put_large_part.Goals as goal

pub returns-clause-put : goal.returns-clause-put
returns-clause-put c =
    ap (λ l. map cell_in l) (with_items_is c.args.cells.now (put_mid c.args.start (c.args.end - c.args.start) c.deref_mut.result.now c.put_large.new.cells)
    (long_mid c.args.start c.args.end c.deref_mut.result.now c.put_large.new.cells c.requires.order (omega (arith, c.requires.within, ap length c.deref_mut.ensures.value)) (omega (arith, c.put_large.auto.cells)) ∙ ap length c.deref_mut.ensures.value ∙ sym c.args.cells.now.ok.0))
    ∙ seen_mid cell_in c.args.start c.args.end c.deref_mut.result.now c.put_large.new.cells _ c.requires.order (omega (arith, c.requires.within, ap length c.deref_mut.ensures.value)) (c.in_ok-put_large.ensures ∙ ap (λ l. with_values l c.args.values.now) (map_part cell_in c.args.start (c.args.end - c.args.start) c.deref_mut.result.now))
    ∙ ap (λ l. with_part c.args.start c.args.end (with_values (part_of c.args.start c.args.end (map cell_in l)) c.args.values.now) (map cell_in l)) c.deref_mut.ensures.value
