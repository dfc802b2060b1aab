use Rattle.std.proofs.Common.{◌∙◌, IfOk, None, Some, subst}
use Rattle.app_sessions.specs.Asked.{job_sessions}
use Rattle.app_jobs.specs.Receivers.{HasReceived}
use Rattle.app_jobs.specs.Senders.{IsTakenText}
use Rattle.app_jobs.proofs.Taken.{never_few, text_sent}
use Rattle.app_jobs.proofs.senders.run_joined.Goals as goal

pub unreachable-requires : goal.unreachable-requires
unreachable-requires g c =
    let receiver = c.args.receiver in
    let received = rw c.in_ok-text.was at c.join-first.ensures.second in
    let few = rw c.in-None.is at received.text_is in
    never_few receiver.list.items c.args.senders.firsts.items c.args.senders.seconds.items c.in_ok-text.feed.taker.taken receiver.most
    (c.close-order.ensures.first ∙ c.join-first.ensures.first.first.sent) (c.close-order.ensures.second ∙ c.join-first.ensures.first.second.sent) c.requires.both.most few

pub returns : goal.returns
returns g c =
    let receiver = c.args.receiver in
    let received = rw c.in_ok-text.was at c.join-first.ensures.second in
    let text = rw c.in-Some.is at received.text_is in
    text_sent receiver.base receiver.list.items c.args.senders.firsts.items c.args.senders.seconds.items c.in_ok-text.feed.taker.taken (job_sessions receiver.sessions.items) c.in-Some.text
    (c.close-order.ensures.first ∙ c.join-first.ensures.first.first.sent) (c.close-order.ensures.second ∙ c.join-first.ensures.first.second.sent) text
