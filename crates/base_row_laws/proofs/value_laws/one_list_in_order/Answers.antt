use Rattle.std.specs.Prelude.{◌&&◌}
use Rattle.base_row_laws.proofs.Orders.{one_list}
use Rattle.base_row_laws.proofs.Values.{of_order}
use Rattle.base_row_laws.proofs.value_laws.one_list_in_order.Goals as goal

pub returns : goal.returns
returns g c = λ before xs ys order. one_list (λ x y. before x y && before y x) before (of_order before order) order xs ys
