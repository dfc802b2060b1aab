use Rattle.exec_column_expr.proofs.Steps.{columns_more}
use Rattle.exec_column_expr.proofs.projection.columns_of.Goals as goal

pub loop-e-preserved : goal.loop-e-preserved
loop-e-preserved c =
    columns_more c.args.es.now c.loop-e.e-index c.args.batch.now.rows c.e-item.result c.loop-e.columns.items c.push.new.self.items c.in_ok-column.column
    c.loop-e-test.true c.e-item.is c.loop-e.invariant c.in_ok-column.ensures c.in_ok-push.ensures.items
