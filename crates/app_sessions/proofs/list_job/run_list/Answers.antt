use Rattle.std.proofs.Common.{◌≡◌, ◌∙◌, ℕ, ◌≤◌, Err, ap, arith, drop, length, subst, take}
use Rattle.store_snapshots.specs.Turns.{from_nobody}
use Rattle.app_sessions.specs.Asked.{job_sessions}
use Rattle.app_sessions.specs.Jobs.{IsOrderText}
use Rattle.app_sessions.specs.Orders.{RefreshOrder}
use Rattle.app_sessions.proofs.JobEnds.{list_within, whole_of_list}
use Rattle.app_sessions.proofs.list_job.run_list.Goals as goal

pub returns-in-Ok : goal.returns-in-Ok
returns-in-Ok g c =
    let v = c.args.publisher.now.version in
    let last = c.run_feed_job.new.feed in
    let mine = take last.count (drop last.start.done last.start.list) in
    let e = c.in-Ok.ensures in
    let begins = (e.ended (λ other. cc) (λ other. cc)).list in
    let whole = whole_of_list v mine begins (e.many ∙ c.requires.whole) in
    subst (λ (y : RefreshOrder × ℕ). IsOrderText v.base y.0 y.1 c.args.before (job_sessions c.args.sessions.items) c.in-Ok.text) (λ i. (whole i, c.requires.fresh i)) e.text

pub unreachable-requires-in-Err-TooFewRefreshes : goal.unreachable-requires-in-Err-TooFewRefreshes
unreachable-requires-in-Err-TooFewRefreshes g c =
    let v = c.args.publisher.now.version in
    let last = c.run_feed_job.new.feed in
    let mine = take last.count (drop last.start.done last.start.list) in
    let e = c.in-Err-TooFewRefreshes.ensures in
    let why = c.in-Err-TooFewRefreshes.field-0-is in
    let begins = (e.ended (λ other. cc) (λ other. cc)).list in
    let least = list_within v (from_nobody mine) begins in
    let few = e.few (ap Err why) in
    let whole = c.requires.whole in
    omega (arith, least, few, whole)
