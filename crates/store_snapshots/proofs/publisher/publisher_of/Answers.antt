use Rattle.std.proofs.Common.{ap, sym}
use Rattle.store_versions.specs.Trials.{version_of}
use Rattle.store_snapshots.specs.Halls.{shown_in}
use Rattle.store_snapshots.proofs.Steps.{follows_same}
use Rattle.store_snapshots.proofs.publisher.publisher_of.Goals as goal

pub invariant_of-result : goal.invariant_of-result
invariant_of-result g c = record {
  follows = follows_same (shown_in c.args.hall) c.args.directory c.requires;
  number = sym (ap version_of c.requires);
}
