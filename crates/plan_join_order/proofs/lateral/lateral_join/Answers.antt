use Rattle.plan_join_order.proofs.LateralSteps.{lateral_made}
use Rattle.plan_join_order.proofs.lateral.lateral_join.Goals as goal

pub returns-then-are_below : goal.returns-then-are_below
returns-then-are_below c =
    lateral_made c.args.n c.args.left c.args.right c.in_ok-rows.rows c.in_ok-new.new c.args.side.now
    c.in-Dependent.columns c.as_slice-then-are_below.result.now c.args.on.now c.in-Dependent.is
    c.as_slice-then-are_below.ensures c.in_ok-rows.ensures c.in_ok-new.ensures
