use Rattle.std.proofs.Common.{map, ap, ◌∙◌, arith}
use Rattle.std.specs.Prelude.{pos}
use Rattle.std.proofs.lemmas.List.{take_all}
use Rattle.exec_row_keys.proofs.CodeLists.{date_codes_are}
use Rattle.exec_row_keys.proofs.column_codes.date_codes.Goals as goal

pub returns : goal.returns
returns c =
    date_codes_are c.args.dates.now c.loop-date.codes.items (c.loop-date.invariant ∙ ap (map pos) (take_all c.loop-date.date-index c.args.dates.now (omega arith)))
