use Rattle.std.proofs.Common.{◌≡◌, take}
use Rattle.base_columns.specs.Lists.{inside}
use Rattle.base_columns.proofs.places.inside.Given as goal

abbrev pub invariant-loop-place : goal.invariant-loop-place
invariant-loop-place l = l.out.items ≡ inside l.n (take l.place-index l.places)
