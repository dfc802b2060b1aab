use Rattle.sql_binder.proofs.ByHand.{each_head}
use Rattle.sql_binder.proofs.subqueries.QueryBinder.joins.Goals as goal

pub join-requires : goal.join-requires
join-requires g c = each_head _ _ _ c.in-len1-up.len_at_least c.j-item.is c.joins.invariant.parts
