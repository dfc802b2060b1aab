use Rattle.base_row_laws.proofs.Classes.{has-SameBag, same_from_counts}
use Rattle.base_row_laws.specs.Bags.{when}
use Rattle.base_row_laws.proofs.bag_laws.has_alike.Goals as goal

pub returns : goal.returns
returns g c = λ same is xs us. (λ e x. (has-SameBag same is x e, e.weighs (λ y. when (same x y) 1)), same_from_counts same is xs us)
