use Rattle.base_row_laws.proofs.Standings.{distinct_stands}
use Rattle.base_row_laws.proofs.standing_laws.distinct_stands.Goals as goal

pub returns : goal.returns
returns g c = λ same is. distinct_stands same is
