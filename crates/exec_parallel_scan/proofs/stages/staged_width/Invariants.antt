use Rattle.std.proofs.Common.{◌≡◌, take}
use Rattle.exec_parallel_scan.specs.Stages.{staged_width}
use Rattle.exec_parallel_scan.proofs.stages.staged_width.Given as goal

abbrev pub invariant-loop-stage : goal.invariant-loop-stage
invariant-loop-stage l = l.after ≡ staged_width (take l.stage-index l.stages) l.width
