use Rattle.expr_scalar.proofs.ExampleProofs.{worked_numbers, worked_values, worked_conditions, worked_tests}
use Rattle.expr_scalar.proofs.laws.worked_examples.Goals as goal

pub returns : goal.returns
returns c = record { numbers = worked_numbers; values = worked_values; conditions = worked_conditions; tests = worked_tests }
