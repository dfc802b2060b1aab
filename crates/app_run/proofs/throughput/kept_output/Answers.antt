use Rattle.std.proofs.Common.{refl}
use Rattle.app_jobs.specs.Works.{kept_under}
use Rattle.app_jobs.specs.Sources.{work_view}
use Rattle.app_run.proofs.JobPlayed.{job_means}
use Rattle.app_run.proofs.throughput.kept_output.Goals as goal

pub returns-in-Text-clause-output : goal.returns-in-Text-clause-output
returns-in-Text-clause-output g c =
    let s = c.args.sources in
    let p = rw c.in-Text.is at c.in_ok-job.ensures.played in
    let t = c.text_and_status-text in
    (p.0, p.1, job_means c.args.shows_rows (g.D.Disk.reads c.play_kept.new.disk) (kept_under (work_view s) c.args.name.now p.0) s c.in-Text.job t.result.0.items t.result.1 c.requires.begins refl refl p.2 t.ensures.text t.ensures.status)
