use Rattle.std.proofs.Common.{◌≡◌, ℕ, ◌<◌, drop, false}
use Rattle.base_text.specs.Parts.{fits}
use Rattle.base_text.proofs.pattern.first_fit.Given as goal

abbrev pub invariant-loop-place : goal.invariant-loop-place
invariant-loop-place l = (before : ℕ) → before < l.place → fits l.part (drop before l.text) ≡ false
