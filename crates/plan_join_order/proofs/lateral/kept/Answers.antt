use Rattle.std.proofs.Common.{refl}
use Rattle.plan_join_order.proofs.LateralSteps.{kept_all, kept_some}
use Rattle.plan_join_order.proofs.lateral.kept.Goals as goal

pub returns-then-is_always : goal.returns-then-is_always
returns-then-is_always c =
    kept_all c.args.on.now c.args.rows c.args.rows (c.is_always.ensures c.if-is_always.true) refl

pub returns : goal.returns
returns c = kept_some c.args.on.now c.args.rows c.in_ok-new.new c.in_ok-new.ensures
