use Rattle.plan_predicate_sinking.proofs.Sinking.{put_below, put_above}
use Rattle.plan_predicate_sinking.proofs.sink.put_split.Goals as goal

pub returns-in_ok-push : goal.returns-in_ok-push
returns-in_ok-push c =
    put_below c.args.limit c.args.e.now c.in_ok-new.new c.args.parts.now.covered _
    c.args.parts.now.rest (c.in_ok-below.ensures c.if-below.true) c.in_ok-new.ensures
    c.in_ok-push.ensures.ok

pub returns-in_ok-push-2 : goal.returns-in_ok-push-2
returns-in_ok-push-2 c =
    put_above c.args.limit c.args.e.now c.in_ok-new.new c.args.parts.now.covered
    c.args.parts.now.rest _ c.in_ok-new.ensures c.in_ok-push-2.ensures.ok
