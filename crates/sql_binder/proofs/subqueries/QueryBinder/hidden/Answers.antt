use Rattle.std.proofs.Common.{arith, subst}
use Rattle.sql_binder.specs.Binding.{block_meaning}
use Rattle.sql_binder_steps.specs.Names.{Sight, sight_of}
use Rattle.sql_binder_steps.specs.Steps.{Binds}
use Rattle.sql_binder.proofs.ByHand.{hides}
use Rattle.sql_binder.proofs.subqueries.QueryBinder.hidden.Goals as goal

pub returns : goal.returns
returns g c = subst (λ (x : Sight).
    Binds (block_meaning c.args.q.now x c.args.state.now) c.subquery.result c.subquery.new.state)
    (hides (sight_of c.args.site.now) c.args.left.now c.in_ok-levels.levels.items
    c.as_slice.result.now c.len.result c.in_ok-levels.ensures c.as_slice.ensures.value
    (first_of (omega (arith, c.len.ensures, c.as_slice.ensures.len), grind arith)))
    c.subquery.ensures
