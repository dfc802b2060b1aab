use Rattle.base_set_rows.proofs.Operations.{set_rows_stand}
use Rattle.base_set_rows.proofs.laws.set_rows_stand.Goals as goal

pub returns : goal.returns
returns g c = λ same is. set_rows_stand same is
