use Rattle.std.proofs.Common.{◌≡◌, take}
use Rattle.expr_conditions.proofs.same.+same.Given as goal

abbrev pub invariant-same_all-loop-i : goal.invariant-same_all-loop-i
invariant-same_all-loop-i l = take l.i l.es ≡ take l.i l.fs

abbrev pub invariant-same_branches-loop-i : goal.invariant-same_branches-loop-i
invariant-same_branches-loop-i l = take l.i l.es ≡ take l.i l.fs

abbrev pub invariant-same_operations-loop-i : goal.invariant-same_operations-loop-i
invariant-same_operations-loop-i l = take l.i l.es ≡ take l.i l.fs
