use Rattle.plan_unnested_nodes.proofs.Asked.{all_ask}
use Rattle.plan_unnested_nodes.proofs.own_columns.among.Goals as goal

pub returns-in-Some : goal.returns-in-Some
returns-in-Some c = all_ask c.args.es.now c.loop-e.e-index c.e-item.result c.loop-e-test.true c.e-item.is c.in-Some.ensures
