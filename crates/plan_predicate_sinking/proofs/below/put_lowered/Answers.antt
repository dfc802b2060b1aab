use Rattle.plan_predicate_sinking.proofs.BelowLists.{put_lower, put_higher}
use Rattle.plan_predicate_sinking.proofs.below.put_lowered.Goals as goal

pub returns-in_ok-push : goal.returns-in_ok-push
returns-in_ok-push c =
    put_lower c.args.n c.args.es.now c.args.places.now c.args.c.now c.in_ok-new.new
    c.args.parts.now.covered _ c.args.parts.now.rest (c.in_ok-movable.ensures c.if-movable.true)
    c.in_ok-new.ensures.meaning c.in_ok-push.ensures.ok

pub returns-in_ok-push-2 : goal.returns-in_ok-push-2
returns-in_ok-push-2 c =
    put_higher c.args.n c.args.es.now c.args.c.now c.in_ok-new-2.new c.args.parts.now.covered
    c.args.parts.now.rest _ c.in_ok-new-2.ensures c.in_ok-push-2.ensures.ok
