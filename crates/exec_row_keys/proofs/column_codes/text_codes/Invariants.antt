use Rattle.std.proofs.Common.{◌≡◌, take, map, get_or}
use Rattle.std.specs.Prelude.{pos}
use Rattle.exec_row_keys.proofs.column_codes.text_codes.Given as goal

abbrev pub invariant-loop-place : goal.invariant-loop-place
invariant-loop-place l = l.codes.items ≡ map (λ p. get_or l.numbered.items p (pos 0)) (take l.place-index l.places)
