use Rattle.plan_predicate_sinking.proofs.Apart.{join_made}
use Rattle.plan_predicate_sinking.proofs.joined.join_first.Goals as goal

pub returns : goal.returns
returns c =
    join_made _ c.args.n c.in_ok-a.a c.in_ok-x.x c.args.first _ c.args.input _ _ c.in_ok-input.input
    c.in_ok-new.new _ c.args.covered c.in_ok-parts.parts.covered c.in_ok-parts.parts.rest
    c.in_ok-condition.condition _
    c.get.ensures c.in_ok-a.ensures c.get-2.ensures c.in_ok-x.ensures c.get-3.ensures
    c.may_be_closed-closed.ensures c.as_slice.ensures c.in_ok-parts.ensures c.in_ok-input.ensures
    c.in_ok-condition.ensures c.side_of-side.ensures c.in_ok-new.ensures
