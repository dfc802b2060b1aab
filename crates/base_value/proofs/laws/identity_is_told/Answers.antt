use Rattle.base_value.proofs.Identity.{value_identity, row_identity}
use Rattle.base_value.proofs.laws.identity_is_told.Goals as goal

pub returns : goal.returns
returns c = (value_identity, row_identity)
