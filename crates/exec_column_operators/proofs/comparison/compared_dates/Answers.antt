use Rattle.std.proofs.Common.{◌∙◌, map}
use Rattle.base_value.specs.declared.value.Value.TheVariants.{Date}
use Rattle.exec_column_operators.proofs.Zips.{dates_zip}
use Rattle.exec_column_operators.proofs.MarkedZips.{as_long, compared_marks}
use Rattle.exec_column_operators.proofs.comparison.compared_dates.Goals as goal

pub dates-requires : goal.dates-requires
dates-requires c =
    let a = c.in-Some in
    let b = c.in-Some-marked_dates in
    as_long Date Date a.ms.now b.ns.now a.xs.now b.ys.now c.args.a.now c.args.b.now a.ensures b.ensures c.requires

pub returns : goal.returns
returns c =
    let a = c.in-Some in
    let b = c.in-Some-marked_dates in
    compared_marks c.args.comparison a.ms.now b.ns.now (map Date a.xs.now) (map Date b.ys.now) c.args.a.now c.args.b.now c.in_ok-truths.truths.items c.unknown_at.result.items
    a.ensures b.ensures c.requires (c.in_ok-truths.ensures ∙ dates_zip c.args.comparison a.xs.now b.ys.now) c.unknown_at.ensures
