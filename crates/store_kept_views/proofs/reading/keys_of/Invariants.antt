use Rattle.std.proofs.Common.{◌≡◌}
use Rattle.std.specs.Prelude.{take}
use Rattle.store_kept_views.specs.Readings.{key_columns}
use Rattle.store_kept_views.proofs.reading.keys_of.Given as goal

abbrev pub invariant-loop-place : goal.invariant-loop-place
invariant-loop-place l = l.columns.items ≡ key_columns (take l.place-index l.places) l.rows.rows
