use Rattle.app_sessions.proofs.Once.{expand_once}
use Rattle.app_sessions.proofs.laws.scripts_stand_for_one_list.Goals as goal

pub returns : goal.returns
returns c = expand_once
