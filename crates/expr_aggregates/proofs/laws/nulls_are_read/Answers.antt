use Rattle.expr_aggregates.proofs.InAnyOrder.{reads_nulls}
use Rattle.expr_aggregates.proofs.laws.nulls_are_read.Goals as goal

pub returns : goal.returns
returns c = reads_nulls
