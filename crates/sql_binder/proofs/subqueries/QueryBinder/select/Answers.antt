use Rattle.std.proofs.Common.{refl}
use Rattle.sql_binder.proofs.Smaller.{parts_below}
use Rattle.sql_binder.proofs.subqueries.QueryBinder.select.Goals as goal

pub own_clauses-requires : goal.own_clauses-requires
own_clauses-requires g c = parts_below c.requires _ refl
