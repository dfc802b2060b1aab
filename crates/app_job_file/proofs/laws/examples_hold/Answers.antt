use Rattle.app_job_file.proofs.WorkedExamples.{examples}
use Rattle.app_job_file.proofs.laws.examples_hold.Goals as goal

pub returns : goal.returns
returns c = examples
