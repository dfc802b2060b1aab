use Rattle.std.proofs.Common.{◌≡◌, ◌≤◌, Ok, arith, rules, sym, ap, ◌∙◌, to_z, of_z}
use Rattle.std.specs.Int.{w128}
use Rattle.std.proofs.lemmas.Int.{ints}
use Rattle.std.specs.Prelude.{FitsSigned}
use Rattle.std.proofs.lemmas.Grind.{common_steps}
use Rattle.base_decimal.specs.Decimal.{rescaled}
use Rattle.exec_column_operators.proofs.Scales.{stands_for}
use Rattle.exec_column_operators.proofs.constants.number_at.Goals as goal

pub returns-in-Ok : goal.returns-in-Ok
returns-in-Ok c =
    let z = c.in-Ok.rescaled in
    let fits : FitsSigned w128 z =
    first_of (search rules, omega (arith, ints), grind (arith, common_steps)) in
    let same : to_z w128 (of_z w128 z) ≡ z = first_of (omega (arith, ints), search rules) in
    let above : c.in-Number.from ≤ c.args.scale =
    first_of (search rules, omega (arith, ints), grind (arith, common_steps)) in
    let b = c.in-Number.coefficient in
    let whole : to_z w128 (of_z w128 b) ≡ b = first_of (omega (arith, ints), search rules) in
    let is : rescaled b c.in-Number.from c.args.scale ≡ Ok z =
    ap (λ x. rescaled x c.in-Number.from c.args.scale) (sym whole) ∙ sym c.in-Ok.ensures in
    rw (c.in-Number.is, same) (stands_for b z c.args.scale c.in-Number.from above is fits)
