use Rattle.std.proofs.Common.{◌∙◌, rules}
use Rattle.plan_predicate_sinking.proofs.Apart.{put_own, put_both}
use Rattle.plan_predicate_sinking.proofs.joined.put_apart.Goals as goal

pub returns-in_ok-push : goal.returns-in_ok-push
returns-in_ok-push c =
    put_own c.args.closed c.args.n c.args.a c.args.x _ c.in_ok-low.low c.in_ok-high.high
    c.args.e.now c.in_ok-new.new c.args.parts.now.covered _ c.args.parts.now.rest _
    c.own_columns_of_domain-m.ensures.width (search rules) (c.in_ok-own.ensures c.if-own.true)
    (c.deref.ensures.value ∙ c.in_ok-places.ensures) c.in_ok-new.ensures.meaning
    c.in_ok-push.ensures.ok

pub returns-in_ok-push-2 : goal.returns-in_ok-push-2
returns-in_ok-push-2 c =
    put_both c.args.closed c.args.n c.args.a c.args.x c.args.e.now c.in_ok-new-2.new
    c.args.parts.now.covered c.args.parts.now.rest _ c.in_ok-new-2.ensures c.in_ok-push-2.ensures.ok
