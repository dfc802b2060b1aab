use Rattle.std.proofs.Common.{◌≡◌, length}
use Rattle.store_file_reader.proofs.keyed.column_forms.Given as goal

abbrev pub invariant-loop-column : goal.invariant-loop-column
invariant-loop-column l = length l.forms.items ≡ l.column-index
