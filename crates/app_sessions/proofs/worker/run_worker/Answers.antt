use Rattle.std.proofs.Common.{rules, ◌≡◌, ◌<◌, ◌≤◌, length, slice_index_or, subst, ap, ◌∙◌, le_refl, le_trans, arith, refl}
use Rattle.std.proofs.Math.ListN.{length-set}
use Rattle.std.proofs.lemmas.List.{get_or_default}
use Rattle.store_versions.specs.Trials.{version_of}
use Rattle.app_sessions.specs.Asked.{IsOverOf, IsUnasked, job_session}
use Rattle.app_sessions.specs.declared.session.Session.{Session}
use Rattle.app_sessions.proofs.JobSets.{same-set, set-each}
use Rattle.app_sessions.proofs.JobRuns.{over_wider}
use Rattle.app_sessions.proofs.worker.run_worker.Goals as goal

pub serving-preserved : goal.serving-preserved
serving-preserved g c =
    let i = c.serving.invariant in
    let e = c.run_session.ensures in
    let old = c.serving.worker.sessions.items in
    let new = c.run_session.new.session in
    let less : c.serving.j < length old = search rules in
    let kept : job_session new ≡ job_session c.index_mut.result.now = search rules in
    let same : job_session new ≡ job_session (slice_index_or old c.serving.j new) = kept ∙ ap job_session (c.index_mut.ensures.value ∙ get_or_default old c.serving.j _ new less) in
    let fits = g.E.Entry.fits c.run_session.new.reader.entry in
    let ok : IsOverOf (g.E.Entry.opening c.serving.worker.reader.entry) fits (version_of c.serving.worker.reader.seen) new = search rules in
    let over : IsOverOf (g.E.Entry.opening c.args.worker.now.reader.entry) fits (version_of c.args.worker.now.reader.seen) new = over_wider _ _ fits fits _ _ new ok i.opening (λ list fit. fit) i.later in
    record {
      opening = e.opening ∙ i.opening;
      seen = e.seen;
      list = e.list;
      later = le_trans i.later e.later;
      going = i.going;
      same = same-set _ old c.serving.j new i.same less same;
      rest = λ k d up within. let w : k < length old = subst (λ n. k < n) (length-set old c.serving.j new) within in
          set-each IsUnasked old c.serving.j new k d w (λ _. i.rest k d (omega (arith, up)) w) (λ at. absurd (omega (arith, at, up)));
      over = λ k d below within. let w : k < length old = subst (λ n. k < n) (length-set old c.serving.j new) within in
          set-each (IsOverOf (g.E.Entry.opening c.args.worker.now.reader.entry) fits (version_of c.args.worker.now.reader.seen)) old c.serving.j new k d w
          (λ not. over_wider _ _ (g.E.Entry.fits c.serving.worker.reader.entry) fits _ _ _ (i.over k d (omega (arith, not, below)) w) refl e.more (le_refl _)) (λ _. over);
    }

pub returns : goal.returns
returns g c =
    let i = c.serving.invariant in
    let len : length c.serving.worker.sessions.items ≡ length c.args.worker.now.sessions.items = i.same.len in
    let ended : length c.serving.worker.sessions.items ≤ c.serving.j = omega (arith, len, c.serving-test.false, c.len-j-end.ensures) in
    record {
      opened = i.opening;
      len = len;
      same = λ _. i.same;
      over = λ _ k d less. i.over k d (omega (arith, ended, less)) less;
    }
