use Rattle.plan_unnested_nodes.proofs.KeptArms.{kept_put}
use Rattle.plan_unnested_nodes.proofs.put.put_kept.Goals as goal

pub returns : goal.returns
returns c = kept_put c.args.number c.args.plan.now c.in_ok-domain.ensures c.in_ok-id.ensures
