use Rattle.std.proofs.Common.{◌≡◌, ℕ, ◌<◌, ◌≤◌, false, length, slice_index_or}
use Rattle.store_versions.specs.Trials.{version_of}
use Rattle.store_snapshots.specs.Openings.{AllBegin, IsOf}
use Rattle.app_sessions.specs.Asked.{IsOverOf, IsUnasked, SameSessions}
use Rattle.app_sessions.specs.declared.session.Session.{Session}
use Rattle.app_sessions.proofs.worker.run_worker.Given as goal

abbrev pub invariant-serving : goal.invariant-serving
invariant-serving g l =
    record {
      opening : g.E.Entry.opening l.worker.reader.entry ≡ g.E.Entry.opening l.fn.worker.reader.entry;
      seen : IsOf (g.E.Entry.opening l.worker.reader.entry) l.worker.reader.seen;
      list : AllBegin (g.E.Entry.fits l.worker.reader.entry) l.worker.reader.seen.list;
      later : version_of l.fn.worker.reader.seen ≤ version_of l.worker.reader.seen;
      going : l.worker.is_lost ≡ false;
      same : SameSessions l.fn.worker.sessions.items l.worker.sessions.items;
      rest : (i : ℕ) (d : Session) → l.j ≤ i → i < length l.worker.sessions.items → IsUnasked (slice_index_or l.worker.sessions.items i d);
      over : (i : ℕ) (d : Session) → i < l.j → i < length l.worker.sessions.items
          → IsOverOf (g.E.Entry.opening l.fn.worker.reader.entry) (g.E.Entry.fits l.worker.reader.entry) (version_of l.fn.worker.reader.seen) (slice_index_or l.worker.sessions.items i d);
    }
