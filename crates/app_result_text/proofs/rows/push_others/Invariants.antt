use Rattle.std.proofs.Common.{◌≡◌, ◌++◌, drop}
use Rattle.base_columns.specs.Batches.{row_at}
use Rattle.app_result_text.specs.Answer.{barred}
use Rattle.app_result_text.proofs.rows.push_others.Given as goal

abbrev pub invariant-loop-j : goal.invariant-loop-j
invariant-loop-j l = l.text.items ++ barred (drop l.j (row_at l.batch.rows l.i).values) ≡ l.fn.text.items ++ barred (drop 1 (row_at l.batch.rows l.i).values)
