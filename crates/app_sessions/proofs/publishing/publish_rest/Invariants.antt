use Rattle.std.proofs.Common.{◌≡◌, ◌≤◌, ◌++◌}
use Rattle.store_versions.specs.Trials.{Trials}
use Rattle.app_sessions.specs.Orders.{RefreshOrder}
use Rattle.app_sessions.specs.Reports.{HasTried, IsTold}
use Rattle.app_sessions.proofs.publishing.publish_rest.Given as goal

abbrev pub invariant-publishing : goal.invariant-publishing
invariant-publishing g l =
    record {
      fits : g.F.Feed.fits l.feed l.publisher.version;
      source : g.F.Feed.source l.feed ≡ g.F.Feed.source l.fn.feed;
      room : l.report.count ≤ l.publisher.version.done;
      tried : (start : Trials) (first : RefreshOrder) → HasTried start l.fn.publisher (first ++ g.F.Feed.tried l.fn.feed)
          → HasTried start l.publisher (first ++ g.F.Feed.tried l.feed);
      told : (start : Trials) (first : RefreshOrder) → HasTried start l.fn.publisher (first ++ g.F.Feed.tried l.fn.feed)
          → IsTold start (first ++ g.F.Feed.tried l.fn.feed) l.fn.report
          → IsTold start (first ++ g.F.Feed.tried l.feed) l.report;
      faults : g.F.Feed.faults l.fn.feed ≤ g.F.Feed.faults l.feed;
    }
