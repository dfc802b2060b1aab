use Rattle.std.proofs.Common.{rules, arith}
use Rattle.std.proofs.lemmas.Grind.{common_steps}
use Rattle.sql_binder.proofs.Opened.{join_is}
use Rattle.sql_binder.proofs.subqueries.QueryBinder.join.Goals as goal

pub returns-in_err-rows : goal.returns-in_err-rows
returns-in_err-rows g c = let item = rw c.as_slice.ensures at c.in_ok-o.ensures in
    rw (join_is, item, ← c.in_ok-both.ensures)
    (first_of (search rules, grind (arith, common_steps)))
