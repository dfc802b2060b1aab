use Rattle.std.proofs.Common.{rules}
use Rattle.plan_unnested_nodes.proofs.ApartNodes.{joins_apart}
use Rattle.plan_unnested_nodes.proofs.from_rows.put_apart_join.Goals as goal

pub returns : goal.returns
returns c =
    joins_apart c.args.builder.now.nodes _ c.args.n c.args.part
    (record { rows = c.in_ok-rows.rows; width = c.in_ok-width.width; conditions = c.in_ok-parts.parts.rest })
    c.args.right c.args.more c.args.on.now c.in_ok-on.on c.in_ok-conditions.conditions c.in_ok-parts.parts.covered
    c.args.builder.now.formed c.requires.width c.requires.more c.in_ok-conditions.ensures (search rules) c.in_ok-parts.ensures c.in_ok-on.ensures c.in_ok-rows.ensures
