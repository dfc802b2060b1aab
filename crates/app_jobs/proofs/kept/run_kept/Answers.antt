use Rattle.std.proofs.Common.{rules, ◌≡◌, ◌∙◌, ◌++◌, ◌<◌, ◌≤◌, ◌^◌, ℕ, List, Ok, ap, arith, length, subst, vec_len}
use Rattle.std.proofs.lemmas.Result.{IfOk-weaker}
use Rattle.store_state.specs.Refresh.{Change}
use Rattle.app_jobs.specs.Sources.{work_view}
use Rattle.app_jobs.specs.Opened.{OpensJob}
use Rattle.app_jobs.proofs.KeptPlayed.{can_play, plays_kept}
use Rattle.app_jobs.proofs.kept.run_kept.Goals as goal

pub play_over-requires-clause-playable : goal.play_over-requires-clause-playable
play_over-requires-clause-playable g c κs within =
    let s = c.args.sources in
    let kept = c.args.kept.items in
    let count : c.len-count.result ≡ length kept = search rules in
    let list : c.append.new.self.items ≡ kept ++ s.list.items = c.in_ok-append.ensures.items in
    let whole : c.len-most.result ≡ length c.append.new.self.items = search rules in
    let most : c.len-most.result ≡ length (kept ++ s.list.items) = whole ∙ ap length list in
    let told = rw c.in-Ok.is at c.in_ok-job.ensures in
    let opens = subst (λ (y : ℕ × ℕ × List Change). OpensJob y.0 y.1 c.args.journal y.2 s.sessions.items s.base s.before (Ok c.in-Ok.job)) (λ i. (count i, most i, list i)) told in
    let r = c.requires.runnable in
    let ok = c.in-Ok.job.sessions.ok.0 in
    let same = ap length opens.0 in
    let least = r.some in
    let limit = r.few in
    let places = r.places in
    let some : 0 < vec_len c.in-Ok.job.sessions = omega (arith, ok, same, least) in
    let few : vec_len c.in-Ok.job.sessions < 2 ^ 32 = omega (arith, ok, same, limit) in
    can_play g.D.Disk.is_reached g.D.Disk.may_leave c.args.disk.now c.args.journal kept s.list.items s.sessions.items s.base s.before c.in-Ok.job opens some few r.unasked (omega (arith, places))
    c.requires.reached c.requires.working c.requires.short c.requires.stands c.requires.keepable r.refreshes

pub returns-in-Ok-clause-played : goal.returns-in-Ok-clause-played
returns-in-Ok-clause-played g c =
    let s = c.args.sources in
    let kept = c.args.kept.items in
    let count : c.len-count.result ≡ length kept = search rules in
    let list : c.append.new.self.items ≡ kept ++ s.list.items = c.in_ok-append.ensures.items in
    let whole : c.len-most.result ≡ length c.append.new.self.items = search rules in
    let most : c.len-most.result ≡ length (kept ++ s.list.items) = whole ∙ ap length list in
    let told = rw c.in-Ok.is at c.in_ok-job.ensures in
    let opens = subst (λ (y : ℕ × ℕ × List Change). OpensJob y.0 y.1 c.args.journal y.2 s.sessions.items s.base s.before (Ok c.in-Ok.job)) (λ i. (count i, most i, list i)) told in
    let disk = c.play_over.new.disk in
    -- a law of the disk, as it holds in this thread
    let image = (g.met.D.Disk g.world.𝓛 g.world.𝓜 g.world.𝓡 ((λ s x. x), (λ x. x), (λ x. x), λ x. x)).reads_image disk in
    IfOk-weaker c.play_over.result _ _
    (λ result plays. plays_kept g.D.Disk.may_leave (g.D.Disk.reads disk) disk c.args.journal kept (work_view s) s.sessions.items c.in-Ok.job result c.requires.unsent opens image plays)
    c.play_over.ensures.played
