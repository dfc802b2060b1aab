use Rattle.app_sessions.proofs.Beside.{versions_asked}
use Rattle.app_sessions.proofs.laws.versions_that_can_be_asked.Goals as goal

pub returns : goal.returns
returns c = versions_asked
