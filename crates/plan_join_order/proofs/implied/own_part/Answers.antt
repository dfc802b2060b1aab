use Rattle.plan_join_order.proofs.OfOrs.{all_below, same_below}
use Rattle.plan_join_order.proofs.implied.own_part.Goals as goal

pub returns-in_ok-new-in-All : goal.returns-in_ok-new-in-All
returns-in_ok-new-in-All c =
    all_below c.args.part.now c.in_ok-new-in-All.new c.in-All.es _ c.in_ok-own-in-All.own
    c.in-All.is c.as_slice.ensures c.in_ok-own-in-All.ensures c.in_ok-new-in-All.ensures

pub returns-in_ok-new-in_default : goal.returns-in_ok-new-in_default
returns-in_ok-new-in_default c =
    same_below c.args.part.now c.in_ok-new-in_default.new c.in_ok-new-in_default.ensures
