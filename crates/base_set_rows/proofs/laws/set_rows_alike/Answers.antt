use Rattle.base_set_rows.proofs.Operations.{set_rows_alike}
use Rattle.base_set_rows.proofs.laws.set_rows_alike.Goals as goal

pub returns : goal.returns
returns g c = λ same is. set_rows_alike same is
