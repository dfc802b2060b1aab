use Rattle.std.proofs.Common.{◌≡◌, ◌∙◌, Err, ap, arith, drop, length, take}
use Rattle.store_snapshots.specs.Turns.{from_nobody}
use Rattle.app_sessions.specs.Asked.{job_sessions}
use Rattle.app_sessions.specs.Orders.{whole_order}
use Rattle.app_sessions.proofs.JobEnds.{list_within}
use Rattle.app_jobs.proofs.KeptFed.{fed_list, fed_order, held_at_end}
use Rattle.app_jobs.proofs.kept.play_beside.Goals as goal

pub returns-in-Ok-clause-played : goal.returns-in-Ok-clause-played
returns-in-Ok-clause-played g c =
    let v = c.args.publisher.now.version in
    let last = c.run_feed_job.new.feed in
    let mine = take last.count (drop last.start.done last.start.list) in
    let e = c.in-Ok.ensures in
    let ends = e.ended (λ other. cc) (λ other. cc) in
    let many : length (whole_order v (from_nobody mine)) ≡ length v.list = e.many ∙ c.requires.whole in
    let fits = ends.fitting.0 in (
      fed_order v mine ends.list many c.args.before (job_sessions c.args.sessions.items) c.in-Ok.text e.text,
      held_at_end (g.D.Disk.may_leave last.disk) v (from_nobody mine) v.list last.journal (fed_list v mine ends.list many) fits.working fits.holds,
    )

pub unreachable-requires : goal.unreachable-requires
unreachable-requires g c =
    let v = c.args.publisher.now.version in
    let last = c.run_feed_job.new.feed in
    let mine = take last.count (drop last.start.done last.start.list) in
    let e = c.in-Err-TooFewRefreshes.ensures in
    let why = c.in-Err-TooFewRefreshes.field-0-is in
    let ends = e.ended (λ other. cc) (λ other. cc) in
    let least = list_within v (from_nobody mine) ends.list in
    let few = e.few (ap Err why) in
    let whole = c.requires.whole in
    omega (arith, least, few, whole)
