use Rattle.expr_aggregates.proofs.Orders.{written_fault, read_back}
use Rattle.std.proofs.Common.{refl}
use Rattle.expr_aggregates.proofs.laws.faults_are_written.Goals as goal

pub returns : goal.returns
returns c = (written_fault, read_back, refl)
