use Rattle.plan_join_order.proofs.Narrowing.{narrows_none, narrows_as}
use Rattle.plan_join_order.proofs.narrow.narrowed.Goals as goal

pub returns-then-stay : goal.returns-then-stay
returns-then-stay c =
    narrows_none c.args.n c.args.parts.inputs c.args.parts.conditions c.args.output

pub returns-in-Some : goal.returns-in-Some
returns-in-Some c =
    narrows_as c.args.n c.args.parts.inputs c.args.parts.conditions _ c.args.output
    c.in-Some.new.parts.inputs
    c.in-Some.new.parts.conditions c.in-Some.new.output c.as_slice.ensures
    (rw c.in-Some.is at c.in_ok-new.ensures)

pub returns-in-None : goal.returns-in-None
returns-in-None c = narrows_none c.args.n c.args.parts.inputs c.args.parts.conditions c.args.output
