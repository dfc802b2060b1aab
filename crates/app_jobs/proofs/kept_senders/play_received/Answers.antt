use Rattle.std.proofs.Common.{◌≡◌, ◌∙◌, ◌++◌, ◌<◌, Err, ap, length, subst}
use Rattle.store_durability.specs.Gateway.{both_named}
use Rattle.store_gateway.specs.Feeds.{gateway_tried}
use Rattle.store_snapshots.specs.Turns.{list_tried}
use Rattle.store_versions.specs.Trials.{Trials}
use Rattle.app_sessions.specs.Asked.{job_sessions}
use Rattle.app_sessions.specs.Jobs.{IsOrderText}
use Rattle.app_sessions.specs.Orders.{RefreshOrder, changes_of}
use Rattle.app_jobs.specs.Senders.{order_sent}
use Rattle.app_jobs.proofs.KeptFed.{held_at_end}
use Rattle.app_jobs.proofs.KeptSent.{order_both}
use Rattle.app_jobs.proofs.kept_senders.play_received.Goals as goal

pub returns-in-Ok-clause-received : goal.returns-in-Ok-clause-received
returns-in-Ok-clause-received g c =
    let v = c.args.publisher.now.version in
    let old = c.args.feed.now in
    let last = c.run_feed_job.new.feed in
    let order = list_tried last.start last.count ++ gateway_tried last.taker in
    let e = c.in-Ok.ensures in
    let names : both_named last.start last.taker ≡ both_named v old.taker = e.source ∙ ap (λ (t : Trials). both_named t old.taker) c.requires.begins.0 in
    let ends = e.ended (λ other. cc) (λ other. cc) in
    let is = order_both v last.start last.count last.taker old.taker names ends.list ends.fitting.turn in (
      ends.over.ended,
      subst (λ (o : RefreshOrder). IsOrderText v.base o v.done c.args.setup.before (job_sessions c.args.setup.sessions.items) c.in-Ok.text) is e.text,
      held_at_end (g.D.Disk.may_leave last.disk) v order (changes_of (order_sent v.list last.taker.taken)) last.journal (ap changes_of is) ends.fitting.keeps.working ends.fitting.keeps.holds,
    )

pub returns-in-Err-TooFewRefreshes-clause-received : goal.returns-in-Err-TooFewRefreshes-clause-received
returns-in-Err-TooFewRefreshes-clause-received g c =
    let v = c.args.publisher.now.version in
    let old = c.args.feed.now in
    let last = c.run_feed_job.new.feed in
    let e = c.in-Err-TooFewRefreshes.ensures in
    let why = c.in-Err-TooFewRefreshes.field-0-is in
    let names : both_named last.start last.taker ≡ both_named v old.taker = e.source ∙ ap (λ (t : Trials). both_named t old.taker) c.requires.begins.0 in
    let ends = e.ended (λ other. cc) (λ other. cc) in
    let is = order_both v last.start last.count last.taker old.taker names ends.list ends.fitting.turn in
    (ends.over.ended, subst (λ (o : RefreshOrder). length o < v.most) is (e.few (ap Err why)))
