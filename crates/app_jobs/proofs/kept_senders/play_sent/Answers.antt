use Rattle.std.proofs.Common.{◌∙◌, List, ap, sym}
use Rattle.store_gateway.specs.Roles.{sent_by}
use Rattle.store_gateway.specs.declared.message.SenderId.{SenderId}
use Rattle.store_gateway.specs.declared.message.SenderId.TheVariants.{First, Second}
use Rattle.store_state.specs.Refresh.{Change}
use Rattle.app_jobs.proofs.Taken.{not_few}
use Rattle.app_jobs.proofs.kept_senders.play_sent.Goals as goal

pub unreachable-requires-in-Ok-None : goal.unreachable-requires-in-Ok-None
unreachable-requires-in-Ok-None g c =
    let job = c.args.job in
    let p = c.play_beside_senders-disk in
    let ended = rw c.in-Some.is at p.ensures.ended in
    let received = rw (c.in-Ok-None.is, c.in-Ok-None.field-0-is) at p.ensures.received in
    let order = c.close-order-in-Ok-None in
    not_few job.opened.publisher.version.list job.senders.firsts.items job.senders.seconds.items p.result.1.taken job.opened.publisher.version.most
    (sym (ap (λ (o : List (SenderId × Change)). sent_by First o) order.ensures.taken) ∙ order.ensures.first ∙ ended.first.sent)
    (sym (ap (λ (o : List (SenderId × Change)). sent_by Second o) order.ensures.taken) ∙ order.ensures.second ∙ ended.second.sent)
    (c.requires.whole ∙ c.requires.receives.most) received.1
