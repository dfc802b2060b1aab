use Rattle.expr_scalar.proofs.Uses.{no_uses, no_branch_uses, no_operation_uses, more_used, more_branches_used, more_operations_used}
use Rattle.expr_scalar.proofs.used.+used.Goals as goal

pub put_all_used-loop-e-init : goal.put_all_used-loop-e-init
put_all_used-loop-e-init t c = no_uses c.args.columns.now.items

pub put_all_used-loop-e-preserved : goal.put_all_used-loop-e-preserved
put_all_used-loop-e-preserved t c =
    more_used c.args.columns.now.items c.loop-e.columns.items c.put_used.new.columns.items c.args.es.now c.loop-e.e-index c.e-item.result
    c.loop-e-test.true c.e-item.is c.loop-e.invariant c.in_ok-put_used.ensures

pub put_branches_used-loop-branch-init : goal.put_branches_used-loop-branch-init
put_branches_used-loop-branch-init t c = no_branch_uses c.args.columns.now.items

pub put_branches_used-loop-branch-preserved : goal.put_branches_used-loop-branch-preserved
put_branches_used-loop-branch-preserved t c =
    more_branches_used c.args.columns.now.items c.loop-branch.columns.items c.put_used.new.columns.items c.put_used-in-loop-branch.new.columns.items
    c.args.branches.now c.loop-branch.branch-index c.branch-item.result c.loop-branch-test.true c.branch-item.is c.loop-branch.invariant
    c.in_ok-put_used.ensures c.in_ok-put_used-2.ensures

pub put_operations_used-loop-operation-init : goal.put_operations_used-loop-operation-init
put_operations_used-loop-operation-init t c = no_operation_uses c.args.columns.now.items

pub put_operations_used-loop-operation-preserved : goal.put_operations_used-loop-operation-preserved
put_operations_used-loop-operation-preserved t c =
    more_operations_used c.args.columns.now.items c.loop-operation.columns.items c.put_used.new.columns.items c.args.operations.now c.loop-operation.operation-index c.operation-item.result
    c.loop-operation-test.true c.operation-item.is c.loop-operation.invariant c.in_ok-put_used.ensures
