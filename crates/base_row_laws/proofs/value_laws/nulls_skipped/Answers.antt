use Rattle.base_row_laws.proofs.Values.{nulls_skipped}
use Rattle.base_row_laws.proofs.value_laws.nulls_skipped.Goals as goal

pub returns : goal.returns
returns g c = λ same is m divided before nulls. nulls_skipped m nulls divided before same
