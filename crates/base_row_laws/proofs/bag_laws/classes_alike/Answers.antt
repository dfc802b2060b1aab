use Rattle.base_row_laws.proofs.Classes.{SameBag-classes}
use Rattle.base_row_laws.proofs.bag_laws.classes_alike.Goals as goal

pub returns : goal.returns
returns g c = λ same is key f xs us bag e. SameBag-classes same is key f bag e
