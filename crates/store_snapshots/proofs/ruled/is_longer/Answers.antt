use Rattle.store_snapshots.proofs.OneOpening.{begins_behind}
use Rattle.store_snapshots.proofs.ruled.is_longer.Goals as goal

pub returns : goal.returns
returns g c holds = begins_behind c.args.first c.args.before.now c.args.now.now c.requires (c.begins_with.ensures.begins holds)
