use Rattle.base_row_laws.proofs.Orders.{distinct_once, distinct_has}
use Rattle.base_row_laws.proofs.bag_laws.distinct_rows.Goals as goal

pub returns : goal.returns
returns g c = λ same is xs. (distinct_once same is xs, distinct_has same is xs)
