-- Groups of rows by columns: their keys, each row's group, and the aggregates column by column.
use Rattle.std.specs.Prelude.{◌≡◌, ℕ, ◌<◌, List, [], ◌∷◌, map, length, replicate, slice_index_or}
use Rattle.base_row_laws.specs.Ranked.{Ranked}
use Rattle.base_row_laws.specs.Bags.{each_once}
use Rattle.base_row_laws.specs.Rows.{same_row}
use Rattle.base_row_laws.specs.Numbers.{numbers_of}
use Rattle.base_value.specs.declared.value.Value.{Value}
use Rattle.base_value.specs.Value.{same_value}
use Rattle.base_columns.specs.Batches.{cells, AreLong}
use Rattle.plan_algebra.specs.declared.aggregate.Aggregate.{Aggregate}
use Rattle.plan_algebra.specs.Aggregates.{argument_and_function}
use Rattle.exec_hash_group.specs.ByNumber.{values_by_number}
use Rattle.exec_hash_group.specs.Keys.{key_rows}

-- the groups' keys, in the order in which they first come; by no column one group, also of no rows
abbrev pub group_keys : List ℕ → List (Ranked Value) → List (List Value)
group_keys [] rows = [] ∷ []
group_keys (c ∷ cs) rows = each_once (same_row same_value) (key_rows (c ∷ cs) rows)

-- the number of each row's group
abbrev pub group_numbers : List ℕ → List (Ranked Value) → List ℕ
group_numbers [] rows = replicate (length rows) 0
group_numbers (c ∷ cs) rows = numbers_of (same_row same_value) (key_rows (c ∷ cs) rows)

-- columns of the groups' keys, and the number of each row's group
pub record AreGroups (by : List ℕ) (rows : List (Ranked Value)) (keys : List (List Value))
    (numbers : List ℕ) (count : ℕ) : Type 0 where
  pub numbers_are : numbers ≡ group_numbers by rows
  pub count_is : count ≡ length (group_keys by rows)
  pub wide : length keys ≡ length by
  pub long : AreLong count keys
  pub keys_are : (i : ℕ) → i < count → cells keys i ≡ slice_index_or (group_keys by rows) i []

-- the values of an aggregate's argument, row by row
abbrev pub arguments_of : Aggregate → List (Ranked Value) → List Value
arguments_of a rows = map (λ r. (argument_and_function a).0 r.values) rows

-- an aggregate of each of `count` groups
abbrev pub aggregate_column : List (Ranked Value) → List ℕ → ℕ → Aggregate → List Value
aggregate_column rows numbers count a =
    values_by_number (argument_and_function a).1 numbers (arguments_of a rows) 0 count
