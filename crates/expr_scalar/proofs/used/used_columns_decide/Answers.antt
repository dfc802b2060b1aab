use Rattle.expr_scalar.proofs.Uses.{used_columns_decide_lem}
use Rattle.expr_scalar.proofs.used.used_columns_decide.Goals as goal

pub returns : goal.returns
returns c = used_columns_decide_lem
