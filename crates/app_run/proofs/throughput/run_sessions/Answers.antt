use Rattle.std.proofs.Common.{refl}
use Rattle.app_jobs.specs.Sources.{work_view}
use Rattle.app_run.proofs.JobPlayed.{job_means}
use Rattle.app_run.proofs.throughput.run_sessions.Goals as goal

pub returns : goal.returns
returns g c reads =
    job_means c.args.shows_rows reads (work_view c.args.sources) c.args.sources c.in_ok-job.job c.text_and_status.result.0.items c.text_and_status.result.1 c.requires.playable.begins refl refl (c.in_ok-job.ensures reads) c.text_and_status.ensures.text c.text_and_status.ensures.status
