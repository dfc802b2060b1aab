use Rattle.expr_scalar.proofs.LawProofs.{more_arithmetics, more_comparisons, more_conditions, typings}
use Rattle.expr_scalar.proofs.laws.more_cases.Goals as goal

pub returns : goal.returns
returns c = record { arithmetic = more_arithmetics; comparisons = more_comparisons; conditions = more_conditions; typings = typings }
