use Rattle.std.proofs.Common.{◌≡◌, ◌≤◌, ◌+◌, [], ◌++◌}
use Rattle.app_sessions.specs.Reports.{HasTried, IsTold}
use Rattle.app_sessions.proofs.publishing.publish_first.Given as goal

abbrev pub invariant-publishing : goal.invariant-publishing
invariant-publishing g l =
    record {
      fits : g.F.Feed.fits l.feed l.publisher.version;
      tried : HasTried l.fn.publisher.version l.publisher (g.F.Feed.tried l.feed);
      told : IsTold l.fn.publisher.version (g.F.Feed.tried l.feed) l.report;
      done : l.publisher.version.done ≡ l.fn.publisher.version.done + l._k;
      count : l.report.count ≡ l._k;
      list : l.publisher.version.list ≡ l.fn.publisher.version.list;
      source : g.F.Feed.source l.feed ≡ g.F.Feed.source l.fn.feed;
      faults : g.F.Feed.faults l.fn.feed ≤ g.F.Feed.faults l.feed;
    }
