use Rattle.exec_hash_group.proofs.Runs.{Runs}
use Rattle.exec_hash_group.proofs.key_runs.run_numbers.Given as goal

abbrev pub invariant-loop-place : goal.invariant-loop-place
invariant-loop-place l = Runs l.keys l.place l.numbers.items l.firsts.items
