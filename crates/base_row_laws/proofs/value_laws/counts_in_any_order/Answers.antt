use Rattle.base_row_laws.proofs.Values.{count_rows_bag, count_bag, count_distinct_bag}
use Rattle.base_row_laws.proofs.value_laws.counts_in_any_order.Goals as goal

pub returns : goal.returns
returns g c = λ same is m. (count_rows_bag m, count_bag m, count_distinct_bag m same is)
