use Rattle.std.proofs.Common.{map, take}
use Rattle.base_schema.specs.LineForm.{file_form}
use Rattle.store_file_reader.specs.Key.{row_key, SameKeys}
use Rattle.store_file_reader.proofs.key.keys_of_rows.Given as goal

abbrev pub invariant-loop-i : goal.invariant-loop-i
invariant-loop-i l = SameKeys l.set (map (row_key (file_form l.file)) (take l.i l.rows.rows))
