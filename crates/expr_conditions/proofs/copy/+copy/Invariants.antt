use Rattle.std.proofs.Common.{◌≡◌, take}
use Rattle.expr_conditions.proofs.copy.+copy.Given as goal

abbrev pub invariant-copied_all-loop-e : goal.invariant-copied_all-loop-e
invariant-copied_all-loop-e l = l.all ≡ take l.e-index l.es

abbrev pub invariant-copied_branches-loop-branch : goal.invariant-copied_branches-loop-branch
invariant-copied_branches-loop-branch l = l.all ≡ take l.branch-index l.branches

abbrev pub invariant-copied_operations-loop-operation : goal.invariant-copied_operations-loop-operation
invariant-copied_operations-loop-operation l = l.all ≡ take l.operation-index l.operations
