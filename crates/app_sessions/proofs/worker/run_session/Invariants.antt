use Rattle.std.proofs.Common.{◌≡◌, ◌-◌, ◌≤◌, length}
use Rattle.store_versions.specs.Trials.{version_of}
use Rattle.store_snapshots.specs.Openings.{AllBegin, IsOf, Narrower}
use Rattle.app_sessions.specs.Asked.{IsAskedOf}
use Rattle.app_sessions.specs.Sessions.{course_of}
use Rattle.app_sessions.proofs.worker.run_session.Given as goal

abbrev pub invariant-asking : goal.invariant-asking
invariant-asking g l =
    record {
      opening : g.E.Entry.opening l.reader.entry ≡ g.E.Entry.opening l.fn.reader.entry;
      seen : IsOf (g.E.Entry.opening l.reader.entry) l.reader.seen;
      list : AllBegin (g.E.Entry.fits l.reader.entry) l.reader.seen.list;
      more : Narrower (g.E.Entry.fits l.fn.reader.entry) (g.E.Entry.fits l.reader.entry);
      later : version_of l.fn.reader.seen ≤ version_of l.reader.seen;
      steps : (course_of l.session).steps ≡ (course_of l.fn.session).steps;
      first_views : (course_of l.session).first_views ≡ (course_of l.fn.session).first_views;
      shows : (course_of l.session).shows_rows ≡ (course_of l.fn.session).shows_rows;
      asked : IsAskedOf (g.E.Entry.opening l.fn.reader.entry) (g.E.Entry.fits l.reader.entry) (version_of l.fn.reader.seen) (version_of l.reader.seen) (course_of l.fn.session) (course_of l.session);
    }

abbrev pub decreases-asking : goal.decreases-asking
decreases-asking g l = length (course_of l.session).steps - (course_of l.session).answered
