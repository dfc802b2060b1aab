use Rattle.sql_binder.proofs.ByHand.{each_head}
use Rattle.sql_binder.proofs.subqueries.QueryBinder.from_list.Goals as goal

pub joined-requires : goal.joined-requires
joined-requires g c = each_head _ _ _ c.in-len1-up.len_at_least c.j-item.is c.from.invariant.parts
