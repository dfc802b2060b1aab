use Rattle.std.proofs.Common.{refl}
use Rattle.expr_scalar.specs.declared.expr.Branch.{Branch}
use Rattle.expr_scalar.specs.declared.expr.Operation.{Operation}
use Rattle.expr_scalar.proofs.Renamed.{branch_made, operation_made}
use Rattle.expr_scalar.proofs.columns.+rename.Goals as goal

pub renamed_branches-loop-branch-preserved : goal.renamed_branches-loop-branch-preserved
renamed_branches-loop-branch-preserved t c =
    let new : Branch = record { when = c.in_ok-when.when; gives = c.in_ok-gives.gives } in
    branch_made c.args.columns.now c.args.branches.now c.loop-branch.branch-index c.branch-item.result new _ _ c.loop-branch-test.true c.branch-item.is
    c.in_ok-when.ensures c.in_ok-gives.ensures c.loop-branch.invariant c.in_ok-push.ensures.ok

pub renamed_operations-loop-operation-preserved : goal.renamed_operations-loop-operation-preserved
renamed_operations-loop-operation-preserved t c =
    let new : Operation = record { operator = c.operation-item.result.operator; operand = c.in_ok-operand.operand } in
    operation_made c.args.columns.now c.args.operations.now c.loop-operation.operation-index c.operation-item.result new _ _ c.loop-operation-test.true c.operation-item.is
    refl c.in_ok-operand.ensures c.loop-operation.invariant c.in_ok-push.ensures.ok
