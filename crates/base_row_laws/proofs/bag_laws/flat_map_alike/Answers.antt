use Rattle.base_row_laws.proofs.Alike.{SameBag-flat_map2}
use Rattle.base_row_laws.proofs.bag_laws.flat_map_alike.Goals as goal

pub returns : goal.returns
returns g c = λ f g xs us. SameBag-flat_map2 f g
