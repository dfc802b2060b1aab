use Rattle.std.proofs.Common.{◌≡◌, ◌≤◌, length, drop}
use Rattle.base_text.specs.Parts.{fits}
use Rattle.base_text.proofs.pattern.fits.Given as goal

abbrev pub invariant-loop-place : goal.invariant-loop-place
invariant-loop-place l = record {
  short : length l.part ≤ length l.text;
  fit : fits l.part l.text ≡ fits (drop l.place l.part) (drop l.place l.text);
}
