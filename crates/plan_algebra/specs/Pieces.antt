-- The rows of a piece of a table.
use Rattle.std.specs.Prelude.{List, [], length}
use Rattle.base_value.specs.declared.value.Value.{Value}
use Rattle.base_columns.specs.Lists.{AreBelow, gathered}
use Rattle.plan_algebra.specs.declared.piece.Live.{Live}
use Rattle.plan_algebra.specs.declared.piece.Live.TheVariants.{Whole, At}

-- the rows of a segment that are there
abbrev pub live_rows : Live → List (List Value) → List (List Value)
live_rows Whole rows = rows
live_rows (At places) rows = gathered [] rows places

-- the places of live rows are those of rows
abbrev pub AreLive : Live → List (List Value) → Type 0
AreLive Whole rows = Unit {0}
AreLive (At places) rows = AreBelow (length rows) places
