use Rattle.exec_flat_plan.proofs.kept.is_read_once.Given as goal

abbrev pub invariant-loop-node : goal.invariant-loop-node
invariant-loop-node l = Unit {0}
