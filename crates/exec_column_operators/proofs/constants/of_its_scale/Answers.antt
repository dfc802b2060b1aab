use Rattle.std.proofs.Common.{◌∙◌, sym, refl, map}
use Rattle.base_value.specs.declared.value.Value.TheVariants.{Number}
use Rattle.expr_operators.specs.Operators.{computed}
use Rattle.exec_column_operators.proofs.MarkedZips.{agree_marked, computed_null}
use Rattle.exec_column_operators.proofs.Scales.{sums_after, sums_before}
use Rattle.exec_column_operators.proofs.Scales.{differences_after, differences_before}
use Rattle.exec_column_operators.proofs.constants.of_its_scale.Goals as goal

pub returns-in-Add-clause-after : goal.returns-in-Add-clause-after
returns-in-Add-clause-after c =
    let o = c.args.operator in
    let w = c.in_ok-number.number in
    let y = c.args.y.now in
    let xs = c.in-Some.numbers.1.now in
    let plain = map (Number c.in-Some.numbers.0) xs in
    agree_marked (λ x. computed o x w) (λ x. computed o x y) c.in-Some.numbers.2.now plain c.args.a.now c.in-Some.ensures refl
    (sums_after c.in-Some.numbers.0 w y xs plain o c.in-Add.is refl c.in_ok-number.ensures)

pub returns-in-Add-clause-before : goal.returns-in-Add-clause-before
returns-in-Add-clause-before c =
    let o = c.args.operator in
    let w = c.in_ok-number.number in
    let y = c.args.y.now in
    let xs = c.in-Some.numbers.1.now in
    let plain = map (Number c.in-Some.numbers.0) xs in
    agree_marked (computed o w) (computed o y) c.in-Some.numbers.2.now plain c.args.a.now c.in-Some.ensures (computed_null o w ∙ sym (computed_null o y))
    (sums_before c.in-Some.numbers.0 w y xs plain o c.in-Add.is refl c.in_ok-number.ensures)

pub returns-in-Subtract-clause-after : goal.returns-in-Subtract-clause-after
returns-in-Subtract-clause-after c =
    let o = c.args.operator in
    let w = c.in_ok-number.number in
    let y = c.args.y.now in
    let xs = c.in-Some.numbers.1.now in
    let plain = map (Number c.in-Some.numbers.0) xs in
    agree_marked (λ x. computed o x w) (λ x. computed o x y) c.in-Some.numbers.2.now plain c.args.a.now c.in-Some.ensures refl
    (differences_after c.in-Some.numbers.0 w y xs plain o c.in-Subtract.is refl c.in_ok-number.ensures)

pub returns-in-Subtract-clause-before : goal.returns-in-Subtract-clause-before
returns-in-Subtract-clause-before c =
    let o = c.args.operator in
    let w = c.in_ok-number.number in
    let y = c.args.y.now in
    let xs = c.in-Some.numbers.1.now in
    let plain = map (Number c.in-Some.numbers.0) xs in
    agree_marked (computed o w) (computed o y) c.in-Some.numbers.2.now plain c.args.a.now c.in-Some.ensures (computed_null o w ∙ sym (computed_null o y))
    (differences_before c.in-Some.numbers.0 w y xs plain o c.in-Subtract.is refl c.in_ok-number.ensures)
