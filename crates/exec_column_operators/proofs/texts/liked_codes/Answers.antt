use Rattle.std.proofs.Common.{◌∙◌, refl, map, []}
use Rattle.base_value.specs.declared.truth.Truth.TheVariants.{Unknown}
use Rattle.base_value.specs.declared.value.Value.TheVariants.{Text}
use Rattle.base_columns.specs.Lists.{gathered}
use Rattle.expr_operators.specs.Operators.{liked}
use Rattle.exec_column_operators.proofs.CodedTexts.{by_code_is}
use Rattle.exec_column_operators.proofs.MarkedZips.{mapped_marks}
use Rattle.exec_column_operators.proofs.texts.liked_codes.Goals as goal

pub returns : goal.returns
returns c =
    let texts = c.in-Some.dictionary.now in
    let codes = c.in-Some.codes.now in
    let plain = map Text (gathered [] texts codes) in
    let p = liked c.args.pattern.now in
    mapped_marks p Unknown c.in-Some.marks.now plain c.args.a.now c.in_ok-truths.truths.items c.masked.result.items refl c.in-Some.ensures.texts
    (by_code_is plain texts c.as_slice.result.now c.in_ok-truths.truths.items p codes refl c.in-Some.ensures.below
    (c.as_slice.ensures.value ∙ (rw c.texts.ensures at c.in_ok-table.ensures)) c.in_ok-truths.ensures)
    c.masked.ensures
