use Rattle.std.proofs.Common.{◌≡◌, ◌≤◌}
use Rattle.app_sessions.proofs.publishing.publish_one.Given as goal

abbrev pub invariant-waiting : goal.invariant-waiting
invariant-waiting g l =
    record {
      publisher : l.publisher ≡ l.fn.publisher;
      report : l.report ≡ l.fn.report;
      tried : g.F.Feed.tried l.feed ≡ g.F.Feed.tried l.fn.feed;
      fits : g.F.Feed.fits l.feed l.publisher.version;
      source : g.F.Feed.source l.feed ≡ g.F.Feed.source l.fn.feed;
      faults : g.F.Feed.faults l.fn.feed ≤ g.F.Feed.faults l.feed;
    }
