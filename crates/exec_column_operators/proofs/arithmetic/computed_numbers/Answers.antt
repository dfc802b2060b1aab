use Rattle.std.proofs.Common.{◌∙◌, ap, map}
use Rattle.base_value.specs.declared.value.Value.TheVariants.{Number}
use Rattle.exec_column_operators.proofs.MarkedZips.{as_long, computed_marks}
use Rattle.exec_column_operators.proofs.arithmetic.computed_numbers.Goals as goal

pub numbers-requires-clause-long : goal.numbers-requires-clause-long
numbers-requires-clause-long c =
    let a = c.in-Some.left in
    let b = c.in-Some-marked_numbers.right in
    as_long (Number a.0) (Number b.0) a.2.now b.2.now a.1.now b.1.now c.args.a.now c.args.b.now
    c.in-Some.ensures c.in-Some-marked_numbers.ensures c.requires

pub returns-in_ok-marks-in-Some-2 : goal.returns-in_ok-marks-in-Some-2
returns-in_ok-marks-in-Some-2 c =
    let a = c.in-Some.left in
    let b = c.in-Some-marked_numbers.right in
    let zs = c.in-Some-2.zs.items in
    let e = rw c.in-Some-2.is at c.in_ok-zs.ensures in
    computed_marks c.args.operator a.2.now b.2.now c.in_ok-marks-in-Some-2.marks (map (Number a.0) a.1.now) (map (Number b.0) b.1.now) c.args.a.now c.args.b.now
    (map (Number c.exact_scale-scale.result) zs) c.from_marked_numbers.result c.in-Some.ensures c.in-Some-marked_numbers.ensures c.requires c.in_ok-marks-in-Some-2.ensures
    (ap (λ s. map (Number s) zs) c.exact_scale-scale.ensures ∙ e) c.from_marked_numbers.ensures
