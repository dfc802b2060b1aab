use Rattle.std.proofs.Common.{Err, ap}
use Rattle.std.proofs.lemmas.Result.{IfOk-weaker}
use Rattle.app_jobs.proofs.Reached.{fault_reached, opened_journal, reach_failed}
use Rattle.app_jobs.proofs.journal.reopen_journal.Goals as goal

pub returns-in-Ok-clause-reached : goal.returns-in-Ok-clause-reached
returns-in-Ok-clause-reached g c =
    opened_journal g.D.Disk.is_reached g.D.Disk.may_leave (g.D.Disk.reads c.args.disk.now) c.reopen.new.disk c.in-Ok.journal c.in-Ok.kept.items c.reopen.ensures.reached
    c.in-Ok.ensures.stands.0 c.in-Ok.ensures.stands.1 c.in-Ok.ensures.short c.in-Ok.ensures.values c.in-Ok.ensures.found

pub returns-in-Err-clause-reached : goal.returns-in-Err-clause-reached
returns-in-Err-clause-reached g c =
    IfOk-weaker c.reached_by.result _ _
    (λ answer means. fault_reached (g.D.Disk.reads c.args.disk.now) c.in-Err.fault answer g.D.Disk.is_reached g.D.Disk.may_leave c.reopen.new.disk c.in-Err.ensures.refused c.requires.some means)
    c.reached_by.ensures

pub returns-in-Err-clause-failed : goal.returns-in-Err-clause-failed
returns-in-Err-clause-failed g c =
    IfOk-weaker c.reached_by.result _ _ (λ answer means faulty. c.in-Err.ensures.failed.rose (ap Err (reach_failed c.in-Err.fault answer means faulty))) c.reached_by.ensures
