use Rattle.expr_aggregates.proofs.InAnyOrder.{of_bag}
use Rattle.base_row_laws.proofs.Values.{count_rows_bag}
use Rattle.expr_aggregates.specs.Values.{reading}
use Rattle.expr_aggregates.proofs.laws.aggregates_of_bags.Goals as goal

pub returns : goal.returns
returns c = (of_bag, count_rows_bag (reading 0))
