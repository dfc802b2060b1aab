use Rattle.std.proofs.Common.{◌≡◌, ◌≤◌}
use Rattle.std.specs.Arc.{arc_value}
use Rattle.store_versions.specs.Trials.{version_of}
use Rattle.store_snapshots.specs.Openings.{AllBegin, IsOf, Narrower}
use Rattle.store_snapshots.proofs.reader.Reader.meet.Given as goal

abbrev pub invariant-meeting : goal.invariant-meeting
invariant-meeting g l =
    record {
      opening : g.E.Entry.opening l.self-inside.entry ≡ g.E.Entry.opening l.fn.self.entry;
      seen : IsOf (g.E.Entry.opening l.self-inside.entry) (arc_value l.self-inside.seen);
      number : version_of (arc_value l.self-inside.seen) ≤ g.E.Entry.number l.self-inside.entry;
      begin : AllBegin (g.E.Entry.fits l.self-inside.entry) (arc_value l.self-inside.seen).list;
      more : Narrower (g.E.Entry.fits l.fn.self.entry) (g.E.Entry.fits l.self-inside.entry);
      later : version_of l.fn.self.seen ≤ version_of (arc_value l.self-inside.seen);
      rises : g.E.Entry.number l.fn.self.entry ≤ g.E.Entry.number l.self-inside.entry;
    }
