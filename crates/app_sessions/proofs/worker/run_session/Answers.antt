use Rattle.std.proofs.Common.{rules, ◌≡◌, ◌∙◌, ◌≤◌, false, inl, inr, le_trans, refl, subst, sym, true}
use Rattle.std.specs.Prelude.{is_none}
use Rattle.store_versions.specs.Trials.{version_of}
use Rattle.app_sessions.specs.Asked.{IsAsked}
use Rattle.app_sessions.specs.Sessions.{Takes, course_of, next_of}
use Rattle.app_sessions.specs.Versions.{states_of}
use Rattle.app_sessions.specs.declared.session.Turn.{Turn}
use Rattle.app_sessions.specs.declared.session.Turn.TheVariants.{Answered}
use Rattle.app_sessions.proofs.JobRuns.{asked_more, not_asked, not_ended, over_all, same_session, took_kept, took_less}
use Rattle.app_sessions.proofs.worker.run_session.Goals as goal

pub asking-preserved : goal.asking-preserved
asking-preserved g c =
    let i = c.asking.invariant in
    let b = c.in_ok-snapshot.ensures in
    let old = course_of c.asking.session in
    let new = course_of c.run_next.new.self in
    let v = c.in_ok-snapshot.snapshot in
    let took : Takes old (version_of v) (states_of v) new Answered = subst (λ (t : Turn). Takes old (version_of v) (states_of v) new t) c.in-Answered.is c.in_ok-run_next.ensures.1 in
    let up : version_of c.asking.reader.seen ≤ version_of v = subst (λ n. version_of c.asking.reader.seen ≤ n) (sym b.snapshot.1) b.later in
    let kept = took_kept old new (version_of v) (states_of v) took in
    record {
      opening = b.opening ∙ i.opening;
      seen = b.of_opening;
      list = b.seen_list;
      more = λ list fit. i.more list (b.more list fit);
      later = le_trans i.later b.later;
      steps = kept.0 ∙ i.steps;
      first_views = kept.1 ∙ i.first_views;
      shows = kept.2 ∙ i.shows;
      asked = λ x is list fit. let d = b.snapshot.0 x (i.opening ∙ is) in
          subst (λ n. IsAsked x.0 list (version_of c.args.reader.now.seen) n (course_of c.args.session.now) new) b.snapshot.1
          (asked_more x.0 list _ _ (course_of c.args.session.now) old new v (i.asked x is list (b.more list fit)) d.0 (b.list list fit) took up);
    }

pub asking-smaller : goal.asking-smaller
asking-smaller g c =
    let old = course_of c.asking.session in
    let new = course_of c.run_next.new.self in
    let v = c.in_ok-snapshot.snapshot in
    let took : Takes old (version_of v) (states_of v) new Answered = subst (λ (t : Turn). Takes old (version_of v) (states_of v) new t) c.in-Answered.is c.in_ok-run_next.ensures.1 in
    took_less old new (version_of v) (states_of v) took

pub returns-clause-same : goal.returns-clause-same
returns-clause-same g c = same_session c.args.session.now c.asking.session c.asking.invariant.steps c.asking.invariant.first_views c.asking.invariant.shows

pub returns-clause-over : goal.returns-clause-over
returns-clause-over g c =
    let i = c.asking.invariant in
    let none : is_none (next_of (course_of c.asking.session)) ≡ true = search rules in
    over_all (g.E.Entry.opening c.args.reader.now.entry) (g.E.Entry.fits c.asking.reader.entry) _ (version_of c.asking.reader.seen) c.args.session.now c.asking.session c.asking.reader.seen
    c.requires.unasked.fresh i.asked (λ o is. i.seen o (i.opening ∙ is)) i.list refl none

pub unreachable-requires : goal.unreachable-requires
unreachable-requires g c =
    let old = course_of c.asking.session in
    let new = course_of c.run_next.new.self in
    let v = c.in_ok-snapshot.snapshot in
    let took = c.in_ok-run_next.ensures.1 in
    let left : is_none (next_of old) ≡ false = search rules in
    elim c.in-AskedRefresh.is [
      | inl (change, set, is) ↦ not_asked (course_of c.args.session.now).steps old new (version_of v) (states_of v) change set c.requires.unasked.plain c.asking.invariant.steps
          (subst (λ (t : Turn). Takes old (version_of v) (states_of v) new t) is took)
      | inr is ↦ not_ended old new (version_of v) (states_of v) left (subst (λ (t : Turn). Takes old (version_of v) (states_of v) new t) is took)
    ]
