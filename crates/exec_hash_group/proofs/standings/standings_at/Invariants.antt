use Rattle.std.proofs.Common.{◌≡◌, take, map}
use Rattle.std.specs.Prelude.{slice_index}
use Rattle.exec_hash_group.specs.Standings.{ranks}
use Rattle.exec_hash_group.proofs.standings.standings_at.Given as goal

abbrev pub invariant-loop-place : goal.invariant-loop-place
invariant-loop-place l = ranks l.picked.items ≡ map (slice_index (ranks l.standings)) (take l.place-index l.places)
