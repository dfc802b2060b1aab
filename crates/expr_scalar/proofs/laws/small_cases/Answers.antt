use Rattle.expr_scalar.proofs.LawProofs.{arithmetics, comparisons, conditions, cases, parts}
use Rattle.expr_scalar.proofs.laws.small_cases.Goals as goal

pub returns : goal.returns
returns c = record { arithmetic = arithmetics; comparisons = comparisons; conditions = conditions; cases = cases; parts = parts }
