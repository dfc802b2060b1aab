use Rattle.std.proofs.Common.{◌∙◌, map}
use Rattle.base_value.specs.declared.value.Value.TheVariants.{Number}
use Rattle.exec_column_operators.proofs.Zips.{numbers_zip}
use Rattle.exec_column_operators.proofs.MarkedZips.{as_long, compared_marks}
use Rattle.exec_column_operators.proofs.comparison.compared_numbers.Goals as goal

pub numbers-requires : goal.numbers-requires
numbers-requires c =
    let a = c.in-Some.left in
    let b = c.in-Some-marked_numbers.right in
    as_long (Number a.0) (Number b.0) a.2.now b.2.now a.1.now b.1.now c.args.a.now c.args.b.now
    c.in-Some.ensures c.in-Some-marked_numbers.ensures c.requires

pub returns : goal.returns
returns c =
    let a = c.in-Some.left in
    let b = c.in-Some-marked_numbers.right in
    compared_marks c.args.comparison a.2.now b.2.now (map (Number a.0) a.1.now) (map (Number b.0) b.1.now) c.args.a.now c.args.b.now c.in_ok-truths.truths.items c.unknown_at.result.items
    c.in-Some.ensures c.in-Some-marked_numbers.ensures c.requires
    (c.in_ok-truths.ensures ∙ numbers_zip c.args.comparison a.0 b.0 a.1.now b.1.now) c.unknown_at.ensures
