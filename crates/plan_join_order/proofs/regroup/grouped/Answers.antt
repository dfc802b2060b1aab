use Rattle.plan_join_order.proofs.Regrouping.{grouped_some, grouped_none}
use Rattle.plan_join_order.proofs.regroup.grouped.Goals as goal

pub returns-in-Some : goal.returns-in-Some
returns-in-Some c = λ a k.
    grouped_some c.args.n a c.in_ok-child-in-Some.child c.in_ok-new-in-Some.new c.in-Some.new.list _
    c.args.by.now c.in-Some.new.by _ c.args.aggregates.now c.in-Some.new.aggregates _
    (rw c.in-Some.is at c.in_ok-new.ensures) c.as_slice-in-Some.ensures
    (c.in_ok-child-in-Some.ensures a k) c.as_slice-in-Some-2.ensures c.as_slice-in-Some-3.ensures
    c.in_ok-new-in-Some.ensures

pub returns : goal.returns
returns c = λ a k.
    grouped_none c.args.n a c.in_ok-child-in-None.child c.in_ok-new-in-None.new c.args.by.now
    c.args.aggregates.now (c.in_ok-child-in-None.ensures a k) c.in_ok-new-in-None.ensures
