use Rattle.std.proofs.Common.{refl}
use Rattle.plan_unnested_nodes.proofs.ApartNodes.{selects_apart}
use Rattle.plan_unnested_nodes.proofs.from_rows.put_apart_select.Goals as goal

pub returns : goal.returns
returns c =
    selects_apart c.args.builder.now.nodes _ c.args.n c.args.part
    (record { rows = c.in_ok-rows.rows; width = c.args.part.width; conditions = c.in_ok-parts.parts.rest })
    c.args.condition.now c.in_ok-parts.parts.covered c.args.builder.now.formed c.requires.width c.in_ok-parts.ensures c.in_ok-rows.ensures refl
