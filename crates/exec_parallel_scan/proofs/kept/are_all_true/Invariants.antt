use Rattle.exec_parallel_scan.proofs.kept.are_all_true.Given as goal

abbrev pub invariant-loop-truth : goal.invariant-loop-truth
invariant-loop-truth l = Unit {0}
