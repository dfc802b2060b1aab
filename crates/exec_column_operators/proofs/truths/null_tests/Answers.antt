use Rattle.std.proofs.Common.{refl, sym, length, []}
use Rattle.std.proofs.lemmas.List.{length-map}
use Rattle.std.proofs.lemmas.Result.{IfOk-weaker}
use Rattle.base_columns.specs.Lists.{gathered}
use Rattle.base_value.specs.declared.value.Value.TheVariants.{Number, Date, Text}
use Rattle.exec_column_operators.proofs.MarkedZips.{nulls_marked}
use Rattle.exec_column_operators.proofs.truths.null_tests.Goals as goal

pub returns-in-Some : goal.returns-in-Some
returns-in-Some c =
    let a = c.in-Some.numbers in
    IfOk-weaker c.true_at.result _ _
    (λ truths o. nulls_marked (Number a.0) a.2.now a.1.now c.args.a.now (length a.1.now) truths.items (λ x. refl) c.in-Some.ensures refl o)
    c.true_at.ensures

pub returns-in-Some-marked_dates : goal.returns-in-Some-marked_dates
returns-in-Some-marked_dates c =
    let a = c.in-Some-marked_dates in
    IfOk-weaker c.true_at-in-Some-marked_dates.result _ _
    (λ truths o. nulls_marked Date a.marks.now a.dates.now c.args.a.now (length a.dates.now) truths.items (λ x. refl) a.ensures refl o)
    c.true_at-in-Some-marked_dates.ensures

pub returns-in-Some-marked_codes : goal.returns-in-Some-marked_codes
returns-in-Some-marked_codes c =
    let a = c.in-Some-marked_codes in
    let texts = gathered [] a._dictionary.now a.codes.now in
    IfOk-weaker c.true_at-in-Some-marked_codes.result _ _
    (λ truths o. nulls_marked Text a.marks.now texts c.args.a.now (length a.codes.now) truths.items (λ x. refl) a.ensures.texts (sym (length-map a.codes.now _)) o)
    c.true_at-in-Some-marked_codes.ensures
