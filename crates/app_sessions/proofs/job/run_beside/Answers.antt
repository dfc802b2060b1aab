use Rattle.std.proofs.Common.{rules, ◌≡◌, ◌∙◌, ◌++◌, ◌≤◌, ap, arith, length, refl, subst, sym}
use Rattle.store_snapshots.specs.Ruled.{list_fits, opening_of}
use Rattle.store_versions.specs.Trials.{Trials, version_of}
use Rattle.app_sessions.specs.Asked.{job_sessions}
use Rattle.app_sessions.specs.Gathered.{HavePlaces, IsJoined}
use Rattle.app_sessions.specs.Jobs.{closing_text}
use Rattle.app_sessions.specs.Workers.{AllHaveMet, AllHaveRun, AllMayMeet, AllReady}
use Rattle.app_sessions.proofs.JobEnds.{order_over}
use Rattle.app_sessions.proofs.JobParts.{all_meet, all_placed, all_ready, sessions_over}
use Rattle.app_sessions.proofs.JobSets.{refilled}
use Rattle.app_sessions.proofs.JobStarts.{ends_feed, most_is, shown_whole, whole_size}
use Rattle.app_sessions.proofs.JobSteps.{told_few}
use Rattle.app_sessions.proofs.job.run_beside.Goals as goal

pub fork-requires-clause-ready : goal.fork-requires-clause-ready
fork-requires-clause-ready g c κs within =
    let b = c.requires.started in
    subst (AllReady opening_of list_fits) (sym c.as_mut_slice.ensures.value) (all_ready opening_of list_fits b.start _ b.sessions c.args.run.workers.items b.prepared)

pub fork-requires-clause-room : goal.fork-requires-clause-room
fork-requires-clause-room g c κs within =
    let b = c.requires.started in
    told_few b.start c.args.publisher.now (b.first ++ g.F.Feed.tried c.args.feed.now) c.args.run.report b.tries b.told

pub returns-then-listed-most-clause-ended : goal.returns-then-listed-most-clause-ended
returns-then-listed-most-clause-ended g c = λ b memory failed.
    let f = c.in_ok-fork.ensures in
    ends_feed (g.F.Feed.fits c.fork.new.feed) (g.F.Feed.is_over c.fork.new.feed) b.start c.fork.new.publisher (b.first ++ g.F.Feed.tried c.fork.new.feed)
    (f.tried b.start b.first b.tries) f.done f.fits f.over

pub meet_workers-requires-clause-opened : goal.meet_workers-requires-clause-opened
meet_workers-requires-clause-opened g c =
    let b = c.requires.started in
    let f = c.in_ok-fork.ensures in
    let s = c.in_ok-show_list.ensures in
    let m = c.as_mut_slice.ensures in
    let olds = c.args.run.workers.items in
    let rans = c.fork.new.workers in
    let shown = c.show_list.new.publisher.shown in
    let ran : AllHaveRun opening_of list_fits olds rans = subst (λ ws. AllHaveRun opening_of list_fits ws rans) m.value f.workers in
    let second = c.as_mut_slice-2.ensures.value ∙ refilled olds rans c.args.run.workers.len (sym m.len ∙ ap length m.value) ran.len in
    let w = shown_whole b.start c.fork.new.publisher c.show_list.new.publisher (b.first ++ g.F.Feed.tried c.fork.new.feed) c.args.run.listed (f.tried b.start b.first b.tries) b.listed s.same s.shown in
    subst (AllMayMeet opening_of shown) (sym second) (all_meet opening_of list_fits b.start shown _ olds rans b.prepared.informed ran w.1)

pub meet_workers-requires-clause-whole : goal.meet_workers-requires-clause-whole
meet_workers-requires-clause-whole g c =
    let b = c.requires.started in
    let f = c.in_ok-fork.ensures in
    let s = c.in_ok-show_list.ensures in
    let now = c.fork.new.publisher in
    let order = b.first ++ g.F.Feed.tried c.fork.new.feed in
    let tries = f.tried b.start b.first b.tries in
    let w = shown_whole b.start now c.show_list.new.publisher order c.args.run.listed tries b.listed s.same s.shown in
    let size = ap length w.0 in
    let most = (w.1 (b.start.base, b.start.list, b.start.most) refl).2 in
    let named = c.requires.most in
    let before = most_is b.start c.args.publisher.now (b.first ++ g.F.Feed.tried c.args.feed.now) b.tries in
    let after = most_is b.start now order tries in
    let l = c.listed.ensures in
    let least = c.if-listed-most.false in
    omega (arith, size, most, named, before, after, l.listed, l.most, least)

pub whole_text-requires : goal.whole_text-requires
whole_text-requires g c =
    let b = c.requires.started in
    let m = c.as_mut_slice.ensures in
    let m2 = c.as_mut_slice-2.ensures in
    let olds = c.args.run.workers.items in
    let rans = c.fork.new.workers in
    let mets = c.meet_workers.new.workers in
    let shown = c.show_list.new.publisher.shown in
    let ran : AllHaveRun opening_of list_fits olds rans = subst (λ ws. AllHaveRun opening_of list_fits ws rans) m.value c.in_ok-fork.ensures.workers in
    let back = refilled olds rans c.args.run.workers.len (sym m.len ∙ ap length m.value) ran.len in
    let met : AllHaveMet list_fits shown.list rans mets = subst (λ ws. AllHaveMet list_fits shown.list ws mets) (m2.value ∙ back) c.in_ok-meet_workers.ensures in
    let third = c.as_slice.ensures.value ∙ refilled _ mets c.args.run.workers.len (sym m2.len ∙ ap length m2.value) (met.len ∙ sym (ap length back)) in
    subst (λ ws. HavePlaces ws c.args.run.count) (sym third)
    (all_placed opening_of list_fits b.start _ c.args.run.count shown.list b.sessions olds rans mets b.prepared ran met b.count)

pub returns-clause-text : goal.returns-clause-text
returns-clause-text g c = λ b.
    let f = c.in_ok-fork.ensures in
    let s = c.in_ok-show_list.ensures in
    let m = c.as_mut_slice.ensures in
    let m2 = c.as_mut_slice-2.ensures in
    let e = c.in_ok-close_report.ensures in
    let olds = c.args.run.workers.items in
    let rans = c.fork.new.workers in
    let mets = c.meet_workers.new.workers in
    let now = c.fork.new.publisher in
    let shown = c.show_list.new.publisher.shown in
    let order = b.first ++ g.F.Feed.tried c.fork.new.feed in
    let report = c.fork.new.report in
    let closed = c.close_report.new.report in
    let job = c.in_ok-text.text in
    let tries = f.tried b.start b.first b.tries in
    let w = shown_whole b.start now c.show_list.new.publisher order c.args.run.listed tries b.listed s.same s.shown in
    let ran : AllHaveRun opening_of list_fits olds rans = subst (λ ws. AllHaveRun opening_of list_fits ws rans) m.value f.workers in
    let back = refilled olds rans c.args.run.workers.len (sym m.len ∙ ap length m.value) ran.len in
    let met : AllHaveMet list_fits shown.list rans mets = subst (λ ws. AllHaveMet list_fits shown.list ws mets) (m2.value ∙ back) c.in_ok-meet_workers.ensures in
    let third = c.as_slice.ensures.value ∙ refilled _ mets c.args.run.workers.len (sym m2.len ∙ ap length m2.value) (met.len ∙ sym (ap length back)) in
    let j : IsJoined mets c.args.run.count closed.text.items closed.accepted job = subst (λ ws. IsJoined ws c.args.run.count closed.text.items closed.accepted job) third c.in_ok-text.ensures in
    let over = sessions_over opening_of list_fits b.start _ c.args.run.count now.version.list b.sessions olds rans mets j.sessions b.prepared ran
    (subst (λ l. AllHaveMet list_fits l rans mets) w.0 met) j.none_lost b.count j.gathers in
    order_over b.start now order b.before (job_sessions b.sessions) report closed j.sessions job b.places tries f.done (f.told b.start b.first b.tries b.told) over
    (e.text ∙ ap (λ (v : Trials). report.text.items ++ closing_text v.base v.list (version_of v)) s.version) e.accepted j.whole j.versions j.clean

pub returns-clause-many : goal.returns-clause-many
returns-clause-many g c = λ b.
    let f = c.in_ok-fork.ensures in
    let now = c.fork.new.publisher in
    let order = b.first ++ g.F.Feed.tried c.fork.new.feed in
    let tries = f.tried b.start b.first b.tries in
    let size = whole_size b.start now order tries f.done in
    let named = c.requires.most in
    let before = most_is b.start c.args.publisher.now (b.first ++ g.F.Feed.tried c.args.feed.now) b.tries in
    let after = most_is b.start now order tries in
    let l = c.listed.ensures in
    let least = c.if-listed-most.false in
    omega (arith, size, named, before, after, l.listed, l.most, least)

pub returns-clause-ended : goal.returns-clause-ended
returns-clause-ended g c = λ b memory failed.
    let f = c.in_ok-fork.ensures in
    ends_feed (g.F.Feed.fits c.fork.new.feed) (g.F.Feed.is_over c.fork.new.feed) b.start c.fork.new.publisher (b.first ++ g.F.Feed.tried c.fork.new.feed)
    (f.tried b.start b.first b.tries) f.done f.fits f.over
