use Rattle.std.proofs.Common.{◌≤◌, ◌-◌, length, take}
use Rattle.std.specs.Io.KnownBytes.{Appends}
use Rattle.app_inputs.proofs.output.write_all.Given as goal

abbrev pub invariant-loop-at : goal.invariant-loop-at
invariant-loop-at g l = (l.at ≤ length l.text) × Appends (g.S.Sink.taken l.fn.out) (g.S.Sink.taken l.out) (take l.at l.text) × (g.S.Sink.faults l.fn.out ≤ g.S.Sink.faults l.out)

abbrev pub decreases-loop-at : goal.decreases-loop-at
decreases-loop-at g l = length l.text - l.at
