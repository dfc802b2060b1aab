use Rattle.std.proofs.Common.{◌≡◌}
use Rattle.std.specs.Prelude.{take}
use Rattle.store_kept_views.specs.Readings.{argument_columns}
use Rattle.store_kept_views.proofs.reading.arguments_of.Given as goal

abbrev pub invariant-loop-aggregate : goal.invariant-loop-aggregate
invariant-loop-aggregate l =
    l.columns.items ≡ argument_columns (take l.aggregate-index l.aggregates) l.rows.rows
