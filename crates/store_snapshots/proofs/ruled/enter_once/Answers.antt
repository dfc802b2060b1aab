use Rattle.store_snapshots.proofs.Steps.{enters}
use Rattle.store_snapshots.specs.Rule.{on_shelf}
use Rattle.store_snapshots.proofs.ruled.enter_once.Goals as goal

pub enter_as-requires : goal.enter_as-requires
enter_as-requires g c x views h at = enters _ _ (on_shelf x) views h at
