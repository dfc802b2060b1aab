use Rattle.app_sessions.proofs.Running.{plans_run}
use Rattle.app_sessions.proofs.laws.plans_give_rows.Goals as goal

pub returns : goal.returns
returns c = plans_run
