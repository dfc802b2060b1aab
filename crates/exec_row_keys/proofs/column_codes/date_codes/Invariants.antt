use Rattle.std.proofs.Common.{◌≡◌, take, map}
use Rattle.std.specs.Prelude.{pos}
use Rattle.exec_row_keys.proofs.column_codes.date_codes.Given as goal

abbrev pub invariant-loop-date : goal.invariant-loop-date
invariant-loop-date l = l.codes.items ≡ map pos (take l.date-index l.dates)
