use Rattle.base_row_laws.proofs.Rows.{same_row_is}
use Rattle.base_row_laws.proofs.bag_laws.rows_have_identity.Goals as goal

pub returns : goal.returns
returns g c = λ same is. same_row_is same is
