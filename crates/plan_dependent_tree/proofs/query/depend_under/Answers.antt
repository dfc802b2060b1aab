use Rattle.std.proofs.Common.{◌≡◌, length, rules}
use Rattle.plan_dependent_tree.proofs.BlockTrees.{whole}
use Rattle.plan_dependent_tree.proofs.query.depend_under.Goals as goal

pub returns : goal.returns
returns c =
    let same : c.in_ok-start.start ≡ length c.args.outer.now = search rules in
    whole c.args.q.now c.args.outer.now c.in_ok-start.start c.in_ok-rows.rows.width
    c.in_ok-rows.rows.tree (c.in_ok-rows.ensures.tree c.requires) same
