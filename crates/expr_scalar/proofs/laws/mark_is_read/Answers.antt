use Rattle.expr_scalar.proofs.LawProofs.{mark_read}
use Rattle.expr_scalar.proofs.laws.mark_is_read.Goals as goal

pub returns : goal.returns
returns c = mark_read
