use Rattle.plan_join_order.proofs.OfOrs.{put_some, same_below}
use Rattle.plan_join_order.proofs.implied.put_own.Goals as goal

pub returns-in_ok-push : goal.returns-in_ok-push
returns-in_ok-push c = put_some c.args.e.now c.in_ok-new.new c.args.to.now _
    (same_below c.args.e.now c.in_ok-new.new c.in_ok-new.ensures) c.in_ok-push.ensures.ok
