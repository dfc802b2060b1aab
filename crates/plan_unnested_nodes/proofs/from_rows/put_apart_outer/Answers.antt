use Rattle.std.proofs.Common.{◌∙◌, rules}
use Rattle.plan_unnested_nodes.proofs.ApartNodes.{outers_apart}
use Rattle.plan_unnested_nodes.proofs.from_rows.put_apart_outer.Goals as goal

pub returns : goal.returns
returns c = λ k q.
    outers_apart c.args.builder.now.nodes _ c.args.n c.args.part
    (record { rows = c.in_ok-rows.rows; width = c.in_ok-width.width; conditions = c.in_ok-conditions.conditions })
    c.args.right c.args.more k c.get.result.now c.args.own
    c.args.builder.now.formed c.requires.width c.requires.more c.in_ok-conditions.ensures (search rules) q (c.get.ensures ∙ c.in_ok-on.ensures) c.in_ok-rows.ensures
