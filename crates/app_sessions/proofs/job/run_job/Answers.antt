use Rattle.std.proofs.Common.{◌≡◌, ℕ, ◌<◌, ◌++◌, IfOk, drop, length, subst, take}
use Rattle.store_snapshots.specs.Turns.{from_nobody, list_tried}
use Rattle.app_sessions.specs.Asked.{job_sessions}
use Rattle.app_sessions.specs.Jobs.{IsOrderText}
use Rattle.app_sessions.specs.Orders.{RefreshOrder}
use Rattle.app_sessions.proofs.JobEnds.{whole_later}
use Rattle.app_sessions.proofs.JobStarts.{ends_later, started}
use Rattle.app_sessions.proofs.job.run_job.Goals as goal

pub run_beside-requires-clause-started : goal.run_beside-requires-clause-started
run_beside-requires-clause-started g c κs within =
    let p = c.in_ok-run.ensures in
    let first = c.prepare.new.feed in
    started c.in_ok-run.run' c.prepare.new.publisher c.args.publisher.now.version c.args.setup.before c.args.setup.sessions.items
    (list_tried first.start first.count) (g.F.Feed.tried c.args.feed.now) c.requires.before p.workers p.tried p.told p.sizes.1 p.sizes.0 c.requires.fresh

pub returns-clause-text : goal.returns-clause-text
returns-clause-text g c =
    let p = c.in_ok-run.ensures in
    let first = c.prepare.new.feed in
    let v = c.args.publisher.now.version in
    let mine = take first.count (drop first.start.done first.start.list) in
    let begun = started c.in_ok-run.run' c.prepare.new.publisher v c.args.setup.before c.args.setup.sessions.items
    (from_nobody mine) (g.F.Feed.tried c.args.feed.now) c.requires.before p.workers p.tried p.told p.sizes.1 p.sizes.0 c.requires.fresh in
    let same = whole_later v c.prepare.new.publisher c.args.setup.before mine (g.F.Feed.tried c.run_beside.new.feed) p.version p.tried in
    subst (λ o. IfOk c.run_beside.result (IsOrderText v.base o v.done c.args.setup.before (job_sessions c.args.setup.sessions.items))) same (c.run_beside.ensures.text begun)

pub returns-clause-many : goal.returns-clause-many
returns-clause-many g c =
    let p = c.in_ok-run.ensures in
    let first = c.prepare.new.feed in
    let v = c.args.publisher.now.version in
    let mine = take first.count (drop first.start.done first.start.list) in
    let begun = started c.in_ok-run.run' c.prepare.new.publisher v c.args.setup.before c.args.setup.sessions.items
    (from_nobody mine) (g.F.Feed.tried c.args.feed.now) c.requires.before p.workers p.tried p.told p.sizes.1 p.sizes.0 c.requires.fresh in
    let same = whole_later v c.prepare.new.publisher c.args.setup.before mine (g.F.Feed.tried c.run_beside.new.feed) p.version p.tried in
    subst (λ (y : RefreshOrder × ℕ). IfOk c.run_beside.result (λ _. length y.0 ≡ y.1)) (λ i. (same i, c.requires.most i)) (c.run_beside.ensures.many begun)

pub returns-clause-few : goal.returns-clause-few
returns-clause-few g c = λ is.
    let p = c.in_ok-run.ensures in
    let first = c.prepare.new.feed in
    let v = c.args.publisher.now.version in
    let mine = take first.count (drop first.start.done first.start.list) in
    let begun = started c.in_ok-run.run' c.prepare.new.publisher v c.args.setup.before c.args.setup.sessions.items
    (from_nobody mine) (g.F.Feed.tried c.args.feed.now) c.requires.before p.workers p.tried p.told p.sizes.1 p.sizes.0 c.requires.fresh in
    let same = whole_later v c.prepare.new.publisher c.args.setup.before mine (g.F.Feed.tried c.run_beside.new.feed) p.version p.tried in
    subst (λ (y : RefreshOrder × ℕ). length y.0 < y.1) (λ i. (same i, c.requires.most i)) (c.run_beside.ensures.few begun is)

pub returns-clause-ended : goal.returns-clause-ended
returns-clause-ended g c = λ memory failed.
    let p = c.in_ok-run.ensures in
    let first = c.prepare.new.feed in
    let v = c.args.publisher.now.version in
    let mine = take first.count (drop first.start.done first.start.list) in
    let begun = started c.in_ok-run.run' c.prepare.new.publisher v c.args.setup.before c.args.setup.sessions.items
    (from_nobody mine) (g.F.Feed.tried c.args.feed.now) c.requires.before p.workers p.tried p.told p.sizes.1 p.sizes.0 c.requires.fresh in
    let same = whole_later v c.prepare.new.publisher c.args.setup.before mine (g.F.Feed.tried c.run_beside.new.feed) p.version p.tried in
    ends_later (g.F.Feed.fits c.run_beside.new.feed) (g.F.Feed.is_over c.run_beside.new.feed) v c.args.setup.before (from_nobody mine ++ g.F.Feed.tried c.run_beside.new.feed)
    (g.F.Feed.tried c.run_beside.new.feed) same (c.run_beside.ensures.ended begun memory failed)
