use Rattle.std.proofs.Common.{Err, List, ap, subst, sym}
use Rattle.std.proofs.lemmas.Result.{IfOk-weaker}
use Rattle.store_state.specs.Refresh.{Change}
use Rattle.app_jobs.specs.Reaching.{HasJournal}
use Rattle.app_jobs.proofs.Reached.{failed_reached, made_journal, reach_failed}
use Rattle.app_jobs.proofs.journal.make_journal.Goals as goal

pub returns-in-Ok-clause-reached : goal.returns-in-Ok-clause-reached
returns-in-Ok-clause-reached g c =
    let file = g.D.Disk.reads c.args.disk.now in
    subst (λ (l : List Change). HasJournal g.D.Disk.is_reached g.D.Disk.may_leave file c.make.new.disk c.in-Ok.journal l) (sym c.new.ensures.items)
    (made_journal g.D.Disk.is_reached g.D.Disk.may_leave file c.make.new.disk c.in-Ok.journal c.make.ensures.reached c.in-Ok.ensures.made.0 c.in-Ok.ensures.made.1 c.requires.empty)

pub returns-in-Err-clause-reached : goal.returns-in-Err-clause-reached
returns-in-Err-clause-reached g c =
    IfOk-weaker c.reached_by.result _ _
    (λ answer means. failed_reached (g.D.Disk.reads c.args.disk.now) c.in-Err.fault answer g.D.Disk.is_reached g.D.Disk.may_leave c.make.new.disk c.in-Err.ensures.only means)
    c.reached_by.ensures

pub returns-in-Err-clause-failed : goal.returns-in-Err-clause-failed
returns-in-Err-clause-failed g c =
    IfOk-weaker c.reached_by.result _ _ (λ answer means faulty. c.in-Err.ensures.failed.rose (ap Err (reach_failed c.in-Err.fault answer means faulty))) c.reached_by.ensures
