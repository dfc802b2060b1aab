use Rattle.std.proofs.Common.{◌≡◌, [], take}
use Rattle.base_columns.specs.Lists.{gathered}
use Rattle.base_columns.proofs.batch.picked_columns.Given as goal

abbrev pub invariant-loop-place : goal.invariant-loop-place
invariant-loop-place l = l.picked.items ≡ gathered [] l.columns (take l.place-index l.places)
