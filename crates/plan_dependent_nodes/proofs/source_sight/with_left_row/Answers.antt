use Rattle.std.proofs.Common.{◌≡◌, ◌+◌, rules}
use Rattle.plan_dependent_nodes.proofs.RightPlaces.{run_put}
use Rattle.plan_dependent_nodes.proofs.source_sight.with_left_row.Goals as goal

pub loop-i-preserved : goal.loop-i-preserved
loop-i-preserved c =
    let same : c.in_ok-at.at ≡ c.args.start + c.loop-i.i = search rules in
    run_put c.args.places c.loop-i.all c.push.new.self c.args.start c.loop-i.i c.in_ok-at.at
    c.loop-i.invariant same c.in_ok-push.ensures.ok
