-- Laws of the aggregates and of what they read and write.
use Rattle.std.specs.Prelude.{◌≡◌, ℕ, ◌<◌}
use Rattle.base_row_laws.specs.Ranked.{false_rank, unknown_rank, true_rank}
use Rattle.base_row_laws.specs.Bags.{OfBag}
use Rattle.base_row_laws.specs.Aggregates.{IsOrder, ReadsNulls, count_rows}
use Rattle.base_value.specs.declared.truth.Fault.{Fault}
use Rattle.base_value.specs.declared.value.Value.TheVariants.{Null, Fault as Failed}
use Rattle.base_value.specs.Truth.{fault_rank}
use Rattle.expr_aggregates.specs.declared.function.AggregateFunction.{AggregateFunction}
use Rattle.expr_aggregates.specs.Values.{written, value_rank, reading, is_before, aggregate_of}

-- each aggregate depends on the bag of values only, and so does count(*)
abbrev pub AggregatesOfBags : Type 0
AggregatesOfBags =
    ((function : AggregateFunction) (scale : ℕ) → OfBag (aggregate_of function scale))
    × OfBag (count_rows (reading 0))

-- the ascending order is a total one
abbrev pub BeforeIsOrder : Type 0
BeforeIsOrder = IsOrder is_before

-- null is no fault and no term of a sum
abbrev pub NullsAreRead : Type 0
NullsAreRead = (scale : ℕ) → ReadsNulls (reading scale)

-- a fault is written at its own rank, and the rank is read back; Unknown is written as null
abbrev pub FaultsAreWritten : Type 0
FaultsAreWritten =
    ((fault : Fault) → written (fault_rank fault) ≡ Failed fault)
    × ((rank : ℕ) → unknown_rank < rank → rank < true_rank → value_rank (written rank) ≡ rank)
    × (written unknown_rank ≡ Null)
