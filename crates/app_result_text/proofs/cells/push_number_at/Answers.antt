use Rattle.std.proofs.Common.{◌∙◌, sym, rules}
use Rattle.std.specs.Prelude.{FitsSigned}
use Rattle.std.specs.Int.{w64}
use Rattle.std.proofs.lemmas.Int.{to_z-of_z}
use Rattle.app_result_text.proofs.RowCells.{number_there}
use Rattle.app_result_text.proofs.cells.push_number_at.Goals as goal

pub returns : goal.returns
returns c =
    let fits : FitsSigned w64 c.number_at.result = search rules in
    let pushed = simp to_z-of_z at c.push_small_decimal.ensures in
    rw (number_there c.args.marks.now c.args.scale c.args.numbers.now c.args.i (sym c.has.ensures ∙ c.if-has.false) c.requires, ← c.number_at.ensures) pushed
