use Rattle.plan_join_order.proofs.Regrouping.{regrouped_seen}
use Rattle.plan_join_order.proofs.regroup.regrouped.Goals as goal

pub returns-in-Some-2 : goal.returns-in-Some-2
returns-in-Some-2 c = λ a.
    regrouped_seen c.args.n c.args.own.now c.in_ok-whole.whole.items _ _ c.args.by.now c.in-Some.by
    c.args.aggregates.now c.in-Some-2.aggregates c.in_ok-list.list c.in_ok-whole.ensures
    c.in_ok-list.ensures c.deref-2.ensures.value (rw c.in-Some.is at c.in_ok-by.ensures)
    c.deref-in-Some-2.ensures.value (rw c.in-Some-2.is at c.in_ok-aggregates-in-Some.ensures) a
