use Rattle.std.proofs.Common.{◌≡◌, ◌∙◌, sym, ap, length, Ok}
use Rattle.std.proofs.lemmas.Bool.{eqb-true}
use Rattle.store_file_reader.specs.File.{only_rows}
use Rattle.store_file_reader.proofs.Answers.{no_line}
use Rattle.store_file_reader.proofs.reader.last_rows.Goals as goal

pub returns-then-is_empty-clause-rows : goal.returns-then-is_empty-clause-rows
returns-then-is_empty-clause-rows c =
    let none : length c.args.rest.now ≡ 0 = eqb-true _ _ (sym c.is_empty.ensures ∙ c.if-is_empty.true) in
    ap only_rows (no_line c.args.lines c.args.rest.now none) ∙ ap Ok (sym c.in_ok-rows.ensures.rows)
