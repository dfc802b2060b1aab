use Rattle.std.proofs.Common.{◌≡◌, ◌-◌, ◌<◌, ◌^◌, drop}
use Rattle.exec_ordered_rows.specs.Sketches.{bytes_after}
use Rattle.exec_ordered_rows.proofs.sketch.start_of.Given as goal

abbrev pub invariant-loop-k : goal.invariant-loop-k
invariant-loop-k l =
    (bytes_after (7 - l.k) l.number (drop l.k l.text) ≡ bytes_after 7 0 l.text)
    × (l.number < 256 ^ l.k)
