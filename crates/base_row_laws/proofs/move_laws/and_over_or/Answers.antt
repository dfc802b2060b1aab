use Rattle.base_row_laws.proofs.Moves.{and_over_or}
use Rattle.base_row_laws.proofs.move_laws.and_over_or.Goals as goal

pub returns : goal.returns
returns c = and_over_or
