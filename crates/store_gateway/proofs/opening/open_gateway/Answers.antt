use Rattle.std.proofs.Common.{◌≡◌, ap, ◌∙◌, []}
use Rattle.crossbeam_queue.specs.Passes.{view}
use Rattle.store_gateway.specs.declared.message.SenderId.TheVariants.{First, Second}
use Rattle.store_gateway.specs.declared.message.Message.TheVariants.{Quotas}
use Rattle.store_gateway.specs.declared.queue.QueueView.{QueueView}
use Rattle.store_gateway.specs.Queue.{named_view, open_view, pick, after_push, without_sender}
use Rattle.store_gateway.proofs.Steps.{begins, forks, names}
use Rattle.store_gateway.proofs.opening.open_gateway.Goals as goal

pub try_push_as-requires-clause-rule : goal.try_push_as-requires-clause-rule
try_push_as-requires-clause-rule c = names _ _ c.args.first_quota c.args.second_quota (view c.in_ok-line.pass) c.in_ok-line.ensures.3

pub try_pop_as-requires-clause-rule : goal.try_pop_as-requires-clause-rule
try_pop_as-requires-clause-rule c = begins _ c.args.first_quota c.args.second_quota (view c.try_push_as.new.pass) (c.in-Ok.ensures.rule ∙ ap (after_push (Quotas c.args.first_quota c.args.second_quota)) c.in_ok-line.ensures.3)

pub another-first_pass-requires-clause-rule : goal.another-first_pass-requires-clause-rule
another-first_pass-requires-clause-rule c =
    let is : view c.try_pop_as.new.pass ≡ open_view (named_view c.args.first_quota c.args.second_quota) = c.in-Some.ensures.rule ∙ ap open_view (c.in-Ok.ensures.rule ∙ ap (after_push (Quotas c.args.first_quota c.args.second_quota)) c.in_ok-line.ensures.3) in
    forks _ First (view c.try_pop_as.new.pass) [] (ap (λ (v : QueueView). v.opening) is) (ap (λ (v : QueueView). pick First v.sent) is)

pub another-second_pass-requires-clause-rule : goal.another-second_pass-requires-clause-rule
another-second_pass-requires-clause-rule c =
    let was : view c.try_pop_as.new.pass ≡ open_view (named_view c.args.first_quota c.args.second_quota) = c.in-Some.ensures.rule ∙ ap open_view (c.in-Ok.ensures.rule ∙ ap (after_push (Quotas c.args.first_quota c.args.second_quota)) c.in_ok-line.ensures.3) in
    let is = c.another-first_pass.ensures.rule.0 ∙ ap (without_sender First) was in
    forks _ Second (view c.another-first_pass.new.pass) [] (ap (λ (v : QueueView). v.opening) is) (ap (λ (v : QueueView). pick Second v.sent) is)
