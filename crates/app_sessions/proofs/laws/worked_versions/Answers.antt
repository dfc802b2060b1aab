use Rattle.app_sessions.proofs.Worked.{version_examples}
use Rattle.app_sessions.proofs.laws.worked_versions.Goals as goal

pub returns : goal.returns
returns c = version_examples
