use Rattle.std.proofs.Common.{◌≡◌, ◌+◌, rules}
use Rattle.plan_dependent_nodes.proofs.PlaceLists.{exprs_more}
use Rattle.plan_dependent_nodes.proofs.parts.columns_of.Goals as goal

pub loop-i-preserved : goal.loop-i-preserved
loop-i-preserved c =
    let same : c.in_ok-place.place ≡ c.args.start + c.loop-i.i = search rules in
    exprs_more c.args.start c.loop-i.i c.loop-i.exprs c.push.new.self c.in_ok-place.place
    c.loop-i.invariant same c.in_ok-push.ensures.ok
