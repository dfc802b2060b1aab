use Rattle.exec_hash_group.proofs.Grouped.{keys_at_first_places}
use Rattle.exec_hash_group.proofs.laws.keys_at_first_places.Goals as goal

pub returns : goal.returns
returns g c = keys_at_first_places
