use Rattle.std.proofs.Common.{◌≡◌, take, length, []}
use Rattle.base_columns.specs.Lists.{gathered, one_list}
use Rattle.base_columns.specs.Texts.{ends_of}
use Rattle.base_columns.proofs.texts.Texts.ends_at.Given as goal

abbrev pub invariant-loop-place : goal.invariant-loop-place
invariant-loop-place l =
    (l.ends.items ≡ ends_of 0 (gathered [] l.self (take l.place-index l.places)))
    × (l.total ≡ length (one_list (gathered [] l.self (take l.place-index l.places))))
