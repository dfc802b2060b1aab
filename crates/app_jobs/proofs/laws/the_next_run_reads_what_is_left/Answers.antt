use Rattle.app_jobs.proofs.NextRun.{next_run}
use Rattle.app_jobs.proofs.laws.the_next_run_reads_what_is_left.Goals as goal

pub returns : goal.returns
returns c = next_run
