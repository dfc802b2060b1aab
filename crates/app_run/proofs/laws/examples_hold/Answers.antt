use Rattle.app_run.proofs.WorkedExamples.{examples}
use Rattle.app_run.proofs.laws.examples_hold.Goals as goal

pub returns : goal.returns
returns c = examples
