use Rattle.std.proofs.Common.{◌≡◌, take}
use Rattle.base_columns.specs.Lists.{gathered}
use Rattle.base_columns.proofs.places.copies.Given as goal

abbrev pub invariant-loop-place : goal.invariant-loop-place
invariant-loop-place g l = (d : _) → l.out.items ≡ gathered d l.items (take l.place-index l.places)
