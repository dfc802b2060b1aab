use Rattle.std.proofs.Common.{◌≡◌, take}
use Rattle.store_state.specs.Versions.{taken}
use Rattle.app_sessions.specs.Orders.{later_by}
use Rattle.app_jobs.proofs.kept.publish_kept.Given as goal

abbrev pub invariant-loop-number : goal.invariant-loop-number
invariant-loop-number g l = record {
  version : l.publisher.version ≡ later_by l.number l.fn.publisher.version;
  shown : l.publisher.shown ≡ l.publisher.version;
  accepted : taken l.fn.publisher.version.base (take l.number l.fn.publisher.version.list) ≡ take l.number l.fn.publisher.version.list;
}
