use Rattle.std.proofs.Common.{rules, arith}
use Rattle.std.proofs.lemmas.Grind.{common_steps}
use Rattle.sql_binder.specs.Blocks.{over_groups}
use Rattle.sql_binder.proofs.subqueries.QueryBinder.over_groups.Goals as goal

pub returns-in_err-t : goal.returns-in_err-t
unfolding over_groups
returns-in_err-t g c =
    let keys = rw (c.as_slice-columns.ensures, c.as_slice.ensures) at c.in_ok-keys_of.ensures in
    let lists = rw c.as_slice-columns.ensures at c.in_ok-lists.ensures in
    rw (keys, lists) (first_of (search rules, grind (arith, common_steps)))
