use Rattle.base_set_rows.proofs.Sunk.{select_below_classes'}
use Rattle.base_set_rows.proofs.laws.select_below_classes.Goals as goal

pub returns : goal.returns
returns g c = λ same is. select_below_classes' same is
