use Rattle.std.specs.Prelude.{◌&&◌}
use Rattle.base_row_laws.proofs.Values.{of_order, min_bag, max_bag}
use Rattle.base_row_laws.proofs.value_laws.extremes_in_any_order.Goals as goal

pub returns : goal.returns
returns g c = λ m before order.
    let is = of_order before order in
    (min_bag m (λ x y. before x y && before y x) before is order, max_bag m (λ x y. before x y && before y x) before is order)
