use Rattle.std.proofs.Common.{refl}
use Rattle.plan_unnested_nodes.proofs.ApartNodes.{own_says}
use Rattle.plan_unnested_nodes.proofs.from_rows.own_condition.Goals as goal

pub returns : goal.returns
returns c = own_says c.new-none.ensures c.in_ok-parts.ensures (c.is_empty.ensures.0 c.if-not-is_empty.false) refl
