use Rattle.std.proofs.Common.{Err, ap}
use Rattle.app_sessions.specs.Asked.{job_sessions}
use Rattle.app_jobs.proofs.Taken.{few_taken, text_taken}
use Rattle.app_jobs.proofs.senders.run_open.Goals as goal

pub returns-in-Ok-clause-text : goal.returns-in-Ok-clause-text
returns-in-Ok-clause-text g c =
    text_taken c.args.publisher.now.version c.args.setup.before c.run_job.new.feed.taker.taken (job_sessions c.args.setup.sessions.items) c.in-Ok.text c.requires.fresh c.requires.before c.in-Ok.ensures.text

pub returns-in-Err-TooFewRefreshes-clause-text : goal.returns-in-Err-TooFewRefreshes-clause-text
returns-in-Err-TooFewRefreshes-clause-text g c =
    few_taken c.args.publisher.now.version c.args.setup.before c.run_job.new.feed.taker.taken c.requires.fresh c.requires.before
    (c.in-Err-TooFewRefreshes.ensures.few (ap Err c.in-Err-TooFewRefreshes.field-0-is))
