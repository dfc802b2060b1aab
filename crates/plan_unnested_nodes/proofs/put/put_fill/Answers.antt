use Rattle.plan_algebra.proofs.Fits.{group_fits}
use Rattle.plan_unnested_nodes.proofs.Fills.{fill_suits}
use Rattle.plan_unnested_nodes.proofs.put.put_fill.Goals as goal

pub put-requires : goal.put-requires
put-requires c = group_fits c.args.builder.now.nodes c.args.rows c.in_ok-by.by c.in_ok-computed.computed c.requires.rows

pub put-requires-2 : goal.put-requires-2
put-requires-2 c =
    fill_suits c.args.builder.now.nodes c.put.new.self.nodes c.args.rows c.in_ok-groups.groups c.args.domain c.args.width c.in_ok-by.by
    c.in_ok-computed.computed c.args.aggregates.now c.in_ok-empty.empty c.requires.domain c.requires.width c.in_ok-by.ensures c.in_ok-computed.ensures
    c.in_ok-empty.ensures c.in_ok-groups.ensures.number c.in_ok-groups.ensures.nodes
