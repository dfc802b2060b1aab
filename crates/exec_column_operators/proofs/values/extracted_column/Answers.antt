use Rattle.std.proofs.Common.{◌∙◌, ap, sym, refl, map, length}
use Rattle.std.proofs.lemmas.List.{length-map}
use Rattle.base_null_marks.specs.Marks.{marked}
use Rattle.base_value.specs.declared.value.Value.TheVariants.{Null, Date}
use Rattle.expr_operators.specs.Operators.{extracted}
use Rattle.exec_column_operators.proofs.MarkedZips.{mapped_marks, first_marked}
use Rattle.exec_column_operators.proofs.values.extracted_column.Goals as goal

pub returns-in_ok-marks-in-Some : goal.returns-in_ok-marks-in-Some
returns-in_ok-marks-in-Some c =
    let dates = c.in-Some.dates.now in
    let plain = map (extracted c.args.part) (map Date dates) in
    mapped_marks (extracted c.args.part) Null c.in-Some.marks.now (map Date dates) c.args.a.now plain c.from_marked_numbers.result refl c.in-Some.ensures refl
    (c.from_marked_numbers.ensures ∙ ap (marked Null c.in_ok-marks-in-Some.marks) c.in_ok-numbers-in-Some.ensures
    ∙ first_marked (length dates) c.in-Some.marks.now c.in_ok-marks-in-Some.marks plain c.in_ok-marks-in-Some.ensures
    (sym (length-map dates Date) ∙ sym (length-map (map Date dates) (extracted c.args.part))))
