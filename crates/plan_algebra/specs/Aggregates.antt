-- Aggregates of a group's rows.
use Rattle.std.specs.Prelude.{List, [], map}
use Rattle.base_row_laws.specs.Ranked.{Ranked}
use Rattle.base_row_laws.specs.Aggregates.{count_rows, aggregated}
use Rattle.base_value.specs.declared.value.Value.{Value}
use Rattle.base_value.specs.declared.value.Value.TheVariants.{Null}
use Rattle.expr_scalar.specs.Meaning.{value}
use Rattle.plan_algebra.specs.declared.aggregate.Aggregate.{Aggregate}
use Rattle.plan_algebra.specs.declared.aggregate.Aggregate.TheVariants.{CountRows, Of}
use Rattle.expr_aggregates.specs.Values.{reading, aggregate_of}

-- an aggregate: its argument, read from a row, and what it makes of the list of the argument's
-- values
abbrev pub argument_and_function : Aggregate → (List Value → Value) × (List Value → Value)
argument_and_function CountRows = (λ row. Null, count_rows (reading 0))
argument_and_function (Of function scale e) = (value e, aggregate_of function scale)

-- the aggregates of a list of rows, from left to right
unfoldable pub aggregates_of : List Aggregate → List (Ranked Value) → List Value
aggregates_of aggregates rows = aggregated (map argument_and_function aggregates) rows

-- one aggregate of no rows
abbrev pub value_of_none : Aggregate → Value
value_of_none a = (argument_and_function a).1 []
