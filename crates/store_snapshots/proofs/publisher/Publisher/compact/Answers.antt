use Rattle.std.proofs.Common.{rules, ◌≡◌}
use Rattle.store_snapshots.proofs.Steps.{follows_same}
use Rattle.store_snapshots.proofs.publisher.Publisher.compact.Goals as goal

pub show-requires-clause-follows : goal.show-requires-clause-follows
show-requires-clause-follows g c =
    let same : c.in_ok-compacted.compacted.version ≡ c.args.self.now.version = search rules in
    follows_same c.args.self.now.version c.in_ok-compacted.compacted.version same
