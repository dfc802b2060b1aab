-- The values that a column holds.
use Rattle.std.specs.Prelude.{List}
use Rattle.std.specs.Arc.{arc_value}
use Rattle.base_value.specs.declared.value.Value.{Value}
use Rattle.base_columns.specs.declared.column.Kept.{Kept}
use Rattle.base_columns.specs.declared.column.Kept.TheVariants.{Own, Shared}

-- the values that a column has to itself or shares
abbrev pub kept_values : Kept → List Value
kept_values (Own values) = values
kept_values (Shared values) = arc_value values
