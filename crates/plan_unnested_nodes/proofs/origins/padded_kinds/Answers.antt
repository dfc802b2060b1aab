use Rattle.std.specs.Prelude.{None}
use Rattle.plan_unnested_nodes.proofs.Turns.{replicate_put}
use Rattle.plan_unnested_nodes.proofs.origins.padded_kinds.Goals as goal

pub loop-i-preserved : goal.loop-i-preserved
loop-i-preserved c = replicate_put c.args.kinds.now c.loop-i._i None c.loop-i.own c.push.new.self c.loop-i.invariant c.in_ok-push.ensures.ok
