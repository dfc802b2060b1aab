use Rattle.std.proofs.Common.{◌≡◌, ◌-◌, ◌<◌, length, subst, sym}
use Rattle.app_sessions.specs.Sessions.{course_of}
use Rattle.app_sessions.specs.declared.session.Session.{Session}
use Rattle.store_versions.specs.Trials.{Trials}
use Rattle.app_jobs.specs.Turns.{IsOnTheWay, clean_from, text_from}
use Rattle.app_jobs.proofs.OnTheWay.{answered_on, asked_place, ended, fewer_answered, fewer_refreshed, refreshed_on, takes_at}
use Rattle.app_jobs.proofs.turns.take_turns.Goals.{in-Answered, in-AskedRefresh+in_ok-directory-in-AskedRefresh}
use Rattle.app_jobs.proofs.turns.take_turns.Goals as goal

pub returns-in-Ended-clause-text : goal.returns-in-Ended-clause-text
returns-in-Ended-clause-text g c =
    (ended (course_of c.turns.session) (course_of c.run_next.new.self) c.turns.directory _ _ (takes_at (course_of c.turns.session) (course_of c.run_next.new.self) c.in_ok-snapshot.snapshot c.turns.directory c.in_ok-run_next.field-0 _ c.in_ok-snapshot.ensures c.in-Ended.is c.in_ok-run_next.ensures.1) c.turns.invariant).0

pub returns-in-Ended-clause-clean : goal.returns-in-Ended-clause-clean
returns-in-Ended-clause-clean g c =
    (ended (course_of c.turns.session) (course_of c.run_next.new.self) c.turns.directory _ _ (takes_at (course_of c.turns.session) (course_of c.run_next.new.self) c.in_ok-snapshot.snapshot c.turns.directory c.in_ok-run_next.field-0 _ c.in_ok-snapshot.ensures c.in-Ended.is c.in_ok-run_next.ensures.1) c.turns.invariant).1

pub refresh-requires-clause-place : goal.refresh-requires-clause-place
refresh-requires-clause-place g c =
    (asked_place (course_of c.turns.session) (course_of c.run_next.new.self) c.turns.directory _ _ c.in-AskedRefresh.field-0 c.in-AskedRefresh.field-1 (takes_at (course_of c.turns.session) (course_of c.run_next.new.self) c.in_ok-snapshot.snapshot c.turns.directory c.in_ok-run_next.field-0 _ c.in_ok-snapshot.ensures c.in-AskedRefresh.is c.in_ok-run_next.ensures.1) c.turns.invariant).1

pub turns-smaller : goal.turns-smaller
turns-smaller g c =
    let old = course_of c.turns.session in
    let mid = course_of c.run_next.new.self in
    elim c.match-branch-3.branch [
      | in-Answered w ↦ subst (λ (s : Session). length (course_of s).steps - (course_of s).answered < length old.steps - old.answered) (sym w.session-is)
          (fewer_answered old mid c.turns.directory (takes_at old mid c.in_ok-snapshot.snapshot c.turns.directory c.in_ok-run_next.field-0 _ c.in_ok-snapshot.ensures w.in-Answered.is c.in_ok-run_next.ensures.1))
      | in-AskedRefresh+in_ok-directory-in-AskedRefresh w ↦ subst (λ (s : Session). length (course_of s).steps - (course_of s).answered < length old.steps - old.answered) (sym w.session-is)
          (fewer_refreshed old mid (course_of w.refresh.new.session) c.turns.directory w.in-AskedRefresh.field-0 w.in-AskedRefresh.field-1 (takes_at old mid c.in_ok-snapshot.snapshot c.turns.directory c.in_ok-run_next.field-0 _ c.in_ok-snapshot.ensures w.in-AskedRefresh.is c.in_ok-run_next.ensures.1)
          w.in_ok-directory-in-AskedRefresh.ensures.handed)
    ]

pub turns-preserved : goal.turns-preserved
turns-preserved g c =
    let old = course_of c.turns.session in
    let mid = course_of c.run_next.new.self in
    let text = text_from (course_of c.args.session.now) c.args.directory in
    let clean = clean_from (course_of c.args.session.now) c.args.directory in
    elim c.match-branch-3.branch [
      | in-Answered w ↦ subst (λ (s : Session). IsOnTheWay (course_of s) c.match-branch-3.directory text clean) (sym w.session-is)
          (subst (λ (d : Trials). IsOnTheWay mid d text clean) (sym w.directory-is)
          (answered_on old mid c.turns.directory text clean (takes_at old mid c.in_ok-snapshot.snapshot c.turns.directory c.in_ok-run_next.field-0 _ c.in_ok-snapshot.ensures w.in-Answered.is c.in_ok-run_next.ensures.1) c.turns.invariant))
      | in-AskedRefresh+in_ok-directory-in-AskedRefresh w ↦ subst (λ (s : Session). IsOnTheWay (course_of s) c.match-branch-3.directory text clean) (sym w.session-is)
          (subst (λ (d : Trials). IsOnTheWay (course_of w.refresh.new.session) d text clean) (sym w.directory-is)
          (refreshed_on old mid (course_of w.refresh.new.session) c.turns.directory w.in_ok-directory-in-AskedRefresh.directory text clean w.in-AskedRefresh.field-0 w.in-AskedRefresh.field-1
          (takes_at old mid c.in_ok-snapshot.snapshot c.turns.directory c.in_ok-run_next.field-0 _ c.in_ok-snapshot.ensures w.in-AskedRefresh.is c.in_ok-run_next.ensures.1)
          w.in_ok-directory-in-AskedRefresh.ensures.next w.in_ok-directory-in-AskedRefresh.ensures.handed c.turns.invariant))
    ]
