use Rattle.store_snapshots.proofs.Steps.{admitted, fits_nobody, forks, joins}
use Rattle.store_snapshots.specs.Rule.{on_shelf}
use Rattle.store_snapshots.proofs.rule.joined.Goals as goal

pub reader-requires : goal.reader-requires
reader-requires g c x views h = admitted (on_shelf x) _ views h (fits_nobody (on_shelf x))

pub tell-requires : goal.tell-requires
tell-requires g c x views h at = forks _ _ (on_shelf x) views h at

pub learn-requires-clause-rule : goal.learn-requires-clause-rule
learn-requires-clause-rule g c x views h at apart there = joins _ _ _ (on_shelf x) views h apart there
