use Rattle.std.proofs.Common.{◌≡◌, ◌++◌, drop}
use Rattle.base_columns.specs.Lists.{one_list}
use Rattle.store_refresh_text.specs.Text.{rows_text}
use Rattle.store_refresh_text.proofs.text.push_rows.Given as goal

abbrev pub invariant-loop-segment : goal.invariant-loop-segment
invariant-loop-segment l = l.text.items ++ rows_text (one_list (drop l.segment-index l.segments)) ≡ l.fn.text.items ++ rows_text (one_list l.segments)
