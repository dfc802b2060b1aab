use Rattle.plan_algebra.proofs.Widths.{rows_are_wide}
use Rattle.plan_algebra.proofs.laws.rows_are_wide.Goals as goal

pub returns : goal.returns
returns c = rows_are_wide
