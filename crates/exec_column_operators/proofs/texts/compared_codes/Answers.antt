use Rattle.std.proofs.Common.{◌≡◌, ◌∙◌, sym, ap, refl, arith, length, map, []}
use Rattle.base_null_marks.proofs.MarkLaws.{length-marked}
use Rattle.base_value.specs.declared.value.Value.TheVariants.{Null, Text}
use Rattle.base_columns.specs.Lists.{gathered}
use Rattle.expr_operators.specs.Operators.{compared}
use Rattle.exec_column_operators.proofs.CodedTexts.{by_codes_are}
use Rattle.exec_column_operators.proofs.MarkedZips.{compared_marked}
use Rattle.exec_column_operators.proofs.texts.compared_codes.Goals as goal

pub returns : goal.returns
returns c =
    let texts = c.in-Some.dictionary.now in
    let codes = c.in-Some.codes.now in
    let plain = map Text (gathered [] texts codes) in
    let right = c.in-Some-as_codes in
    let one : length right.one.now ≡ 1 = omega (arith, c.len.ensures.value, c.if-len-ne1.false) in
    let long : length plain ≡ length c.args.b.now = sym (ap length c.in-Some.ensures.texts ∙ length-marked Null c.in-Some.marks.now plain) ∙ c.requires in
    compared_marked c.args.comparison c.in-Some.marks.now plain c.args.a.now c.args.b.now c.in_ok-truths.truths.items c.masked.result.items c.in-Some.ensures.texts c.requires
    (by_codes_are plain c.args.b.now texts right.one.now c.as_slice.result.now c.in_ok-truths.truths.items (compared c.args.comparison) codes right._ones.now
    long refl c.in-Some.ensures.below right.ensures.texts right.ensures.below one
    (c.as_slice.ensures.value ∙ (rw (c.texts.ensures, c.text.ensures) at c.in_ok-table.ensures)) c.in_ok-truths.ensures)
    c.masked.ensures
