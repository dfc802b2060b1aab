use Rattle.std.proofs.Common.{◌≡◌, rules}
use Rattle.plan_unnested_nodes.proofs.Columns.{pairs_put}
use Rattle.plan_unnested_nodes.proofs.lists.numbered_pairs.Goals as goal

pub loop-i-preserved : goal.loop-i-preserved
loop-i-preserved c =
    let same : c.in_ok-i.i ≡ c.loop-i.i = search rules in
    pairs_put c.args.columns.now c.loop-i.i c.in_ok-i.i c.loop-i.pairs c.push.new.self c.loop-i-test.true same c.loop-i.invariant c.in_ok-push.ensures.ok
