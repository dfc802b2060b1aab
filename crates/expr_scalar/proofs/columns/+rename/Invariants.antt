use Rattle.std.proofs.Common.{◌≡◌, map, take}
use Rattle.expr_scalar.specs.Rename.{renamed, renamed_branch, renamed_operation}
use Rattle.expr_scalar.proofs.columns.+rename.Given as goal

abbrev pub invariant-renamed_all-loop-e : goal.invariant-renamed_all-loop-e
invariant-renamed_all-loop-e l = l.all ≡ map (renamed l.columns) (take l.e-index l.es)

abbrev pub invariant-renamed_branches-loop-branch : goal.invariant-renamed_branches-loop-branch
invariant-renamed_branches-loop-branch l = l.all ≡ map (renamed_branch l.columns) (take l.branch-index l.branches)

abbrev pub invariant-renamed_operations-loop-operation : goal.invariant-renamed_operations-loop-operation
invariant-renamed_operations-loop-operation l = l.all ≡ map (renamed_operation l.columns) (take l.operation-index l.operations)
