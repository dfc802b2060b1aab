use Rattle.expr_scalar.specs.declared.expr.Expr.TheVariants.{Column}
use Rattle.plan_unnested_nodes.proofs.Turns.{map_put_at}
use Rattle.plan_unnested_nodes.proofs.lists.column_list.Goals as goal

pub loop-column-preserved : goal.loop-column-preserved
loop-column-preserved c =
    map_put_at Column c.args.columns.now c.loop-column.column-index 0 c.loop-column.all c.push.new.self c.loop-column-test.true c.loop-column.invariant
    c.in_ok-push.ensures.ok
