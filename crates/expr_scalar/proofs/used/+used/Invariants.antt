use Rattle.std.proofs.Common.{◌≡◌, ◌++◌, take}
use Rattle.expr_scalar.specs.Used.{all_used, branches_used, operations_used}
use Rattle.expr_scalar.proofs.used.+used.Given as goal

abbrev pub invariant-put_all_used-loop-e : goal.invariant-put_all_used-loop-e
invariant-put_all_used-loop-e l = l.columns.items ≡ l.fn.columns.items ++ all_used (take l.e-index l.es)

abbrev pub invariant-put_branches_used-loop-branch : goal.invariant-put_branches_used-loop-branch
invariant-put_branches_used-loop-branch l = l.columns.items ≡ l.fn.columns.items ++ branches_used (take l.branch-index l.branches)

abbrev pub invariant-put_operations_used-loop-operation : goal.invariant-put_operations_used-loop-operation
invariant-put_operations_used-loop-operation l = l.columns.items ≡ l.fn.columns.items ++ operations_used (take l.operation-index l.operations)
