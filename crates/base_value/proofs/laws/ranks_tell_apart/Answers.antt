use Rattle.base_value.proofs.Ranks.{standing_from_rank, truth_from_rank}
use Rattle.base_value.proofs.laws.ranks_tell_apart.Goals as goal

pub returns : goal.returns
returns c = (standing_from_rank, truth_from_rank)
