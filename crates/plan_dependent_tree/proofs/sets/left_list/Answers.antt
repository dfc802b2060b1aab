use Rattle.sql_bound_query.specs.declared.query.SetColumn.{SetColumn}
use Rattle.plan_dependent_tree.proofs.SetTrees.{reads_none, reads_more}
use Rattle.plan_dependent_tree.proofs.sets.left_list.Goals as goal

pub loop-column-init : goal.loop-column-init
loop-column-init c =
    rw c.new-exprs.ensures (reads_none c.args.places.now (λ (k : SetColumn). k.left))

pub loop-column-preserved : goal.loop-column-preserved
loop-column-preserved c =
    reads_more c.args.places.now (λ (k : SetColumn). k.left) c.args.columns.now
    c.loop-column.column-index _ c.loop-column.exprs c.push.new.self c.in_ok-expr.expr
    c.loop-column-test.true c.column-item.is c.loop-column.invariant c.in_ok-expr.ensures.meaning
    c.in_ok-push.ensures.ok
