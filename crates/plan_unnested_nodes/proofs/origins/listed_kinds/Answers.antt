use Rattle.plan_unnested_nodes.proofs.Turns.{listed_put}
use Rattle.plan_unnested_nodes.proofs.origins.listed_kinds.Goals as goal

pub loop-e-preserved : goal.loop-e-preserved
loop-e-preserved c =
    listed_put c.args.kinds.now c.args.es.now c.loop-e.e-index c.e-item.result c.listed_kind.result c.loop-e.own c.push.new.self c.loop-e-test.true c.e-item.is
    c.loop-e.invariant c.listed_kind.ensures c.in_ok-push.ensures.ok
