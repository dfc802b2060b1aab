use Rattle.std.proofs.Common.{◌≡◌, length}
use Rattle.store_snapshots.specs.Halls.{AreSeated, HaveSeenLists}
use Rattle.store_snapshots.proofs.hall.seat.Given as goal

abbrev pub invariant-seating : goal.invariant-seating
invariant-seating g l = record {
  shown : g.H.Hall.shown l.hall ≡ g.H.Hall.shown l.fn.hall;
  seated : AreSeated g.E.Entry.opening (g.H.Hall.shown l.fn.hall) l.readers.items;
  lists : HaveSeenLists g.E.Entry.fits l.readers.items;
  count : length l.readers.items ≡ l._k;
  refused : g.H.Hall.refused l.hall ≡ g.H.Hall.refused l.fn.hall;
}
