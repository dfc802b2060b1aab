use Rattle.std.proofs.Common.{◌≡◌, ◌++◌, drop}
use Rattle.std.specs.List.{flat_map}
use Rattle.plan_spelling.specs.Exprs.{branch_spelling, expr_spelling, operation_spelling}
use Rattle.plan_spelling.proofs.exprs.+spelling.Given as goal

abbrev pub invariant-put_exprs-loop-e : goal.invariant-put_exprs-loop-e
invariant-put_exprs-loop-e l =
    l.numbers.items ++ flat_map expr_spelling (drop l.e-index l.es) ≡ l.fn.numbers.items ++ flat_map expr_spelling l.es

abbrev pub invariant-put_branches-loop-branch : goal.invariant-put_branches-loop-branch
invariant-put_branches-loop-branch l =
    l.numbers.items ++ flat_map branch_spelling (drop l.branch-index l.branches) ≡ l.fn.numbers.items ++ flat_map branch_spelling l.branches

abbrev pub invariant-put_operations-loop-operation : goal.invariant-put_operations-loop-operation
invariant-put_operations-loop-operation l =
    l.numbers.items ++ flat_map operation_spelling (drop l.operation-index l.operations) ≡ l.fn.numbers.items ++ flat_map operation_spelling l.operations
