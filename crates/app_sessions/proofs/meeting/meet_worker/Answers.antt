use Rattle.std.proofs.Common.{◌≡◌, ◌≤◌, ◌∙◌, List, length, sym, refl, subst, Result, Ok, Err, OnOk}
use Rattle.store_state.specs.Prefixes.{IsPrefix}
use Rattle.store_snapshots.specs.Ruled.{list_fits}
use Rattle.store_versions.specs.Trials.{Trials}
use Rattle.app_sessions.specs.Workers.{HasMet}
use Rattle.app_sessions.proofs.JobMeets.{whole_fits}
use Rattle.app_sessions.proofs.meeting.meet_worker.Goals as goal

on_both : {X Y : Type 0} (r : Result X Y) (A B C : Type 0) → OnOk r A → OnOk r B → (A → B → C) → OnOk r C
on_both (Ok x) A B C a b f = f a b
on_both (Err e) A B C a b f = tt

pub returns : goal.returns
returns g c =
    let shown = c.args.publisher.now.shown in
    let old = c.args.worker.now in
    let seen = c.meet.new.self.seen in
    let o = c.requires.opened.named in
    let opened = c.requires.opened.opened in
    let version = c.requires.opened.version o refl in
    let most : seen.most ≡ shown.most = (c.meet.ensures.of_opening o (c.meet.ensures.opening ∙ (c.learn.ensures.opening ∙ opened))).2 ∙ sym version.2 in
    on_both c.meet.result (list_fits c.learn.new.self.entry seen.list) (length seen.list ≤ seen.most) (HasMet list_fits shown.list old _) c.meet.ensures.met c.meet.ensures.short
    (λ met short. record {
      sessions = refl;
      going = refl;
      whole = whole_fits (list_fits old.reader.entry) shown.list seen shown.most (c.learn.ensures.more seen.list met)
          (subst (λ (v : Trials). IsPrefix v.list seen.list) c.in_ok-tell.ensures.note (c.learn.ensures.told seen.list met)) short most c.requires.whole;
    })
