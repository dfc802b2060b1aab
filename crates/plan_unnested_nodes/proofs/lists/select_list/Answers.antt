use Rattle.plan_unnested_nodes.proofs.Columns.{columns_put}
use Rattle.plan_unnested_nodes.proofs.lists.select_list.Goals as goal

pub loop-i-preserved : goal.loop-i-preserved
loop-i-preserved c = columns_put c.loop-i.i c.loop-i.all c.push.new.self c.loop-i.invariant c.in_ok-push.ensures.ok
