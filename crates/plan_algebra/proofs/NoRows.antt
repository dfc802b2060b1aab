-- Aggregates of no rows, and aggregates as functions of the bag of rows.
use Rattle.std.proofs.Common.{◌≡◌, suc, List, [], ◌∷◌, map, refl, ap, length}
use Rattle.base_row_laws.specs.Ranked.{Ranked}
use Rattle.base_row_laws.specs.Bags.{Each, OfBag}
use Rattle.base_row_laws.proofs.Values.{count_rows_bag, aggregated_bag}
use Rattle.base_value.specs.declared.value.Value.{Value}
use Rattle.expr_aggregates.specs.Values.{reading}
use Rattle.expr_aggregates.proofs.InAnyOrder.{of_bag}
use Rattle.plan_algebra.specs.declared.aggregate.Aggregate.{Aggregate}
use Rattle.plan_algebra.specs.declared.aggregate.Aggregate.TheVariants.{CountRows, Of}
use Rattle.plan_algebra.specs.Aggregates.{argument_and_function, aggregates_of, value_of_none}

pub of_none : (aggregates : List Aggregate) → aggregates_of aggregates [] ≡ map value_of_none aggregates
unfolding aggregates_of
of_none [] = refl
of_none (a ∷ aggregates) = ap (λ l. value_of_none a ∷ l) (of_none aggregates)

each_bag : (aggregates : List Aggregate) → Each (λ a. OfBag a.1) (map argument_and_function aggregates)
each_bag [] = tt
each_bag (CountRows ∷ aggregates) = (count_rows_bag (reading 0), each_bag aggregates)
each_bag (Of function scale e ∷ aggregates) = (of_bag function scale, each_bag aggregates)

-- the aggregates depend on the bag of rows only
pub aggregates_bag : (aggregates : List Aggregate) → OfBag (aggregates_of aggregates)
unfolding aggregates_of
aggregates_bag aggregates = aggregated_bag (map argument_and_function aggregates) (each_bag aggregates)

pub length-aggregates_of : (aggregates : List Aggregate) (rows : List (Ranked Value)) → length (aggregates_of aggregates rows) ≡ length aggregates
unfolding aggregates_of
length-aggregates_of [] rows = refl
length-aggregates_of (a ∷ aggregates) rows = ap suc (length-aggregates_of aggregates rows)
