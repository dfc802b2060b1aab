use Rattle.std.proofs.Common.{◌≡◌, ap, ◌∙◌, rules}
use Rattle.std.specs.Prelude.{FitsSigned}
use Rattle.std.specs.Int.{w64}
use Rattle.std.proofs.lemmas.Int.{to_z-of_z}
use Rattle.base_decimal.proofs.Powers.{scaled_alike}
use Rattle.expr_operators.specs.Operators.{holds, truth_of}
use Rattle.exec_column_operators.specs.Exact.{number_compared}
use Rattle.exec_column_operators.proofs.comparison.compared_number.Goals as goal

pub returns-then-eq : goal.returns-then-eq
unfolding number_compared
returns-then-eq c =
    let f : FitsSigned w64 c.args.x.now = search rules in
    let g : FitsSigned w64 c.args.y.now = search rules in
    let cmp = simp to_z-of_z at c.cmp.ensures in
    let alike : c.args.s ≡ c.args.t = search rules in
    c.holds.ensures ∙ ap (λ o. truth_of (holds c.args.comparison o)) (cmp ∙ scaled_alike c.args.x.now c.args.y.now c.args.s c.args.t alike)
