use Rattle.std.proofs.Common.{◌≡◌, [], ◌∷◌, arith, ap, length, length-append, subst, sym, ◌∙◌}
use Rattle.std.specs.List.{All}
use Rattle.std.proofs.lemmas.List.Elements.{All-push}
use Rattle.store_versions.specs.Trials.{Trials}
use Rattle.store_snapshots.specs.Openings.{AllBegin, opening_at}
use Rattle.store_snapshots.specs.Seen.{ReaderState}
use Rattle.store_snapshots.proofs.hall.seat.Goals as goal

pub seating-preserved : goal.seating-preserved
seating-preserved g c =
    let P : ReaderState g.row.E.Denot → Type 0 = λ r.
    (g.E.Entry.opening r.entry ≡ opening_at (g.H.Hall.shown c.args.hall.now))
    × (r.seen ≡ g.H.Hall.shown c.args.hall.now) in
    let Q : ReaderState g.row.E.Denot → Type 0 = λ r. AllBegin (g.E.Entry.fits r.entry) r.seen.list in
    let made = c.in-Made.ensures.made in
    let shown = c.seating.invariant.shown in
    let opened = ap (λ (r : ReaderState g.row.E.Denot). g.E.Entry.opening r.entry) c.new-in-Made.ensures
    ∙ made.0 ∙ ap opening_at shown in
    let seen = ap (λ (r : ReaderState g.row.E.Denot). r.seen) c.new-in-Made.ensures
    ∙ c.in_ok-try_clone-in-Made.ensures ∙ c.requires.start in
    let begins = subst (λ (v : Trials). AllBegin (g.E.Entry.fits c.in-Made.entry) v.list)
    (sym (c.in_ok-try_clone-in-Made.ensures ∙ c.requires.start ∙ sym shown)) made.1 in
    let longer = ap length c.in_ok-push-in-Made.ensures.items in
    let count = length-append c.seating.readers.items (c.new-in-Made.result ∷ []) in
    let before = c.seating.invariant.count in
    record {
      shown = c.another.ensures.shown ∙ shown;
      seated = subst (All P) (sym c.in_ok-push-in-Made.ensures.items)
          (All-push P c.seating.readers.items c.new-in-Made.result c.seating.invariant.seated
          (opened, seen));
      lists = subst (All Q) (sym c.in_ok-push-in-Made.ensures.items)
          (All-push Q c.seating.readers.items c.new-in-Made.result c.seating.invariant.lists
          (subst Q (sym c.new-in-Made.ensures) begins));
      count = omega (arith, longer, count, before);
      refused = made.3 ∙ c.seating.invariant.refused;
    }
