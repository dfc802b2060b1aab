use Rattle.app_sessions.specs.Asked.{job_sessions}
use Rattle.app_jobs.specs.Sources.{work_view}
use Rattle.app_jobs.proofs.KeptPlayed.{refused_over}
use Rattle.app_jobs.proofs.kept.play_kept.Goals as goal

pub returns-in-Refused-clause-played : goal.returns-in-Refused-clause-played
returns-in-Refused-clause-played g c =
    let refused = rw c.in-Refused.is at c.in_ok-journal.ensures.reached in
    refused_over c.args.name.now (g.D.Disk.named c.args.disk.now) (g.D.Disk.reads c.reach_journal.new.disk) (work_view c.args.sources) (job_sessions c.args.sources.sessions.items) c.in-Refused.fault refused
