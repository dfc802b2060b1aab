use Rattle.std.proofs.Common.{◌≡◌, ◌+◌, length}
use Rattle.store_versions.specs.Trials.{version_of}
use Rattle.store_snapshots.specs.Ruled.{list_fits, opening_of}
use Rattle.app_sessions.specs.Workers.{AllInformed, AllIdle, AreOfOpening}
use Rattle.app_sessions.proofs.workers.make_workers.Given as goal

abbrev pub invariant-making : goal.invariant-making
invariant-making g l =
    record {
      readers : AreOfOpening opening_of l.publisher.version l.readers.items;
      len : length l.workers.items + length l.readers.items ≡ length l.fn.readers.items;
      informed : AllInformed opening_of list_fits l.publisher.version (version_of l.publisher.version) l.workers.items;
      idle : AllIdle l.workers.items;
    }

abbrev pub decreases-making : goal.decreases-making
decreases-making g l = length l.readers.items
