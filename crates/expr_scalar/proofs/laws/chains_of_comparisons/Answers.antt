use Rattle.expr_scalar.proofs.LawProofs.{between_and, in_list_or}
use Rattle.expr_scalar.proofs.laws.chains_of_comparisons.Goals as goal

pub returns : goal.returns
returns c = record { between = between_and; in_list = in_list_or }
