use Rattle.std.proofs.Common.{◌≡◌}
use Rattle.test_store.proofs.snapshots.publish.Given as goal

abbrev pub invariant-publishing : goal.invariant-publishing
invariant-publishing g l =
    record {
      base : l.publisher.version.base ≡ l.fn.publisher.version.base;
      list : l.publisher.version.list ≡ l.fn.publisher.version.list;
      most : l.publisher.version.most ≡ l.fn.publisher.version.most;
    }
