use Rattle.plan_unnesting.proofs.WorkedProofs.{worked_rows}
use Rattle.plan_unnesting.proofs.worked.worked_rows.Goals as goal

pub returns : goal.returns
returns c = worked_rows
