use Rattle.plan_unnested_nodes.proofs.OwnRows.{more_asked}
use Rattle.plan_unnested_nodes.proofs.own_rows.asked_of_all.Goals as goal

pub loop-e-preserved : goal.loop-e-preserved
loop-e-preserved c =
    more_asked c.args.kinds.now c.args.own.now c.args.es.now c.loop-e.asked c.put_asked.new.to c.loop-e.e-index c.e-item.result c.loop-e-test.true c.e-item.is c.loop-e.invariant
    c.in_ok-put_asked.ensures
