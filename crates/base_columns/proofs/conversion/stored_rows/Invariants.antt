use Rattle.std.proofs.Common.{◌≡◌, ◌++◌, take}
use Rattle.base_columns.specs.Tables.{IsOpen, plain_rows}
use Rattle.base_columns.proofs.conversion.stored_rows.Given as goal

abbrev pub invariant-loop-row : goal.invariant-loop-row
invariant-loop-row l = IsOpen l.rest × (l.stored ++ plain_rows l.rest.rows ≡ take l.row-index l.rows)
