use Rattle.std.proofs.Common.{◌≡◌, ◌++◌, drop}
use Rattle.base_columns.specs.Batches.{row_at}
use Rattle.store_refresh_text.specs.Text.{fields_written}
use Rattle.store_refresh_text.proofs.text.push_fields.Given as goal

abbrev pub invariant-loop-j : goal.invariant-loop-j
invariant-loop-j l = l.text.items ++ fields_written (drop l.j (row_at l.batch.rows l.i).values) ≡ l.fn.text.items ++ fields_written (row_at l.batch.rows l.i).values
