use Rattle.std.proofs.Common.{rules}
use Rattle.plan_join_order.proofs.Narrowing.{narrows_seen}
use Rattle.plan_join_order.proofs.narrow.tried.Goals as goal

pub returns : goal.returns
returns c =
    narrows_seen c.args.n c.args.parts.now.inputs _ c.in_ok-new.new.inputs
    c.args.parts.now.conditions _ c.args.output.now c.in_ok-conditions.conditions
    c.in_ok-output.output c.in_ok-new.new.kept.items _ c.in_ok-whole.whole.items _ _
    c.in_ok-places.places.items _ _ _ _ c.as_slice.ensures c.in_ok-new.ensures
    c.deref-2.ensures.value c.in_ok-whole.ensures c.as_slice-conditions.ensures
    c.deref-4.ensures.value c.deref-5.ensures.value (c.in_ok-are_found.ensures (search rules))
    c.deref-6.ensures.value c.deref-7.ensures.value
    (c.in_ok-are_found-2.ensures (search rules))
    c.deref-8.ensures.value c.in_ok-conditions.ensures c.deref-9.ensures.value
    c.in_ok-output.ensures
