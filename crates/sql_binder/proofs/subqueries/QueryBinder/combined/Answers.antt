use Rattle.sql_binder.proofs.ByHand.{each_head}
use Rattle.sql_binder.proofs.subqueries.QueryBinder.combined.Goals as goal

pub set_part-requires : goal.set_part-requires
set_part-requires g c = each_head _ _ _ c.in-len1-up.len_at_least c.p-item.is c.parts.invariant.parts
