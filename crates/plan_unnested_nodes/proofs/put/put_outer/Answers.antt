use Rattle.plan_unnested_nodes.proofs.Columns.{side_outer_fits}
use Rattle.plan_unnested_nodes.proofs.put.put_outer.Goals as goal

pub put-requires : goal.put-requires
put-requires c =
    side_outer_fits c.args.builder.now.nodes c.args.outer c.args.rows c.args.side.now c.args.width c.args.nulls c.in_ok-on.on c.in_ok-matched.matched
    c.requires.outer c.requires.rows c.requires.width c.in_ok-matched.ensures
