use Rattle.std.proofs.Common.{◌≡◌, drop}
use Rattle.exec_flat_plan.specs.Kept.{is_read}
use Rattle.exec_flat_plan.proofs.kept.is_read.Given as goal

abbrev pub invariant-loop-node : goal.invariant-loop-node
invariant-loop-node l = is_read l.id l.nodes ≡ is_read l.id (drop l.node-index l.nodes)
