use Rattle.std.proofs.Common.{ℕ, pos, ◌<◌, ◌≤◌, ◌≤ℤ◌, get_or}
use Rattle.exec_hash_group.proofs.key_runs.ascend.Given as goal

abbrev pub invariant-loop-i : goal.invariant-loop-i
invariant-loop-i l = (i j : ℕ) → i ≤ j → j < l.i → get_or l.keys i (pos 0) ≤ℤ get_or l.keys j (pos 0)
