use Rattle.std.proofs.Common.{◌≡◌, take, true}
use Rattle.base_text.specs.Parts.{has_no_percent}
use Rattle.base_text.proofs.pattern.percent_place.Given as goal

abbrev pub invariant-loop-place : goal.invariant-loop-place
invariant-loop-place l = has_no_percent (take l.place l.pattern) ≡ true
