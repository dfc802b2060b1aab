use Rattle.std.proofs.Common.{◌≡◌, take, []}
use Rattle.base_columns.specs.Lists.{gathered, one_list}
use Rattle.base_columns.proofs.texts.Texts.bytes_at.Given as goal

abbrev pub invariant-loop-place : goal.invariant-loop-place
invariant-loop-place l = l.bytes.items ≡ one_list (gathered [] l.self (take l.place-index l.places))
