-- Parts of rows, each with its own groups, and the groups of all parts.
use Rattle.std.specs.Prelude.{◌≡◌, ℕ, ◌<◌, ◌^◌, List, [], map, length}
use Rattle.base_row_laws.specs.Ranked.{Ranked}
use Rattle.base_value.specs.declared.value.Value.{Value}
use Rattle.base_value.specs.declared.truth.Standing.{Standing}
use Rattle.base_columns.specs.Lists.{one_list, AreBelow}
use Rattle.plan_algebra.specs.declared.aggregate.Aggregate.{Aggregate}
use Rattle.plan_algebra.specs.declared.aggregate.Aggregate.TheVariants.{CountRows, Of}
use Rattle.plan_algebra.specs.Aggregates.{argument_and_function}
use Rattle.plan_algebra.specs.Plans.{groups}
use Rattle.exec_hash_group.specs.declared.part.GroupedPart.{GroupedPart}
use Rattle.exec_hash_group.specs.Grouping.{group_numbers, AreGroups, arguments_of, aggregate_column}
use Rattle.exec_hash_group.specs.Regrouping.{lists_by_number}
use Rattle.exec_hash_group.specs.Standings.{ranks, row_ranks, least_of, AreOfNumbers}

-- a part has the groups of its rows by these columns
pub record IsGrouped (by : List ℕ) (part : GroupedPart) : Type 0 where
  pub width : part.keys.width ≡ length by
  pub numbers_are : part.numbers.items ≡ group_numbers by part.rows.rows
  pub keys_are : part.keys.rows ≡ groups by [] part.rows.rows

-- the rows of all parts
abbrev pub part_rows : List GroupedPart → List (Ranked Value)
part_rows parts = one_list (map (λ p. p.rows.rows) parts)

-- the keys of all parts' groups
abbrev pub part_keys : List GroupedPart → List (Ranked Value)
part_keys parts = one_list (map (λ p. p.keys.rows) parts)

-- for each group of a part the values of an aggregate's argument
abbrev pub group_arguments : Aggregate → GroupedPart → List (List Value)
group_arguments a part =
    lists_by_number part.numbers.items (arguments_of a part.rows.rows) 0 (length part.keys.rows)

-- the same for the groups of all parts
abbrev pub part_arguments : Aggregate → List GroupedPart → List (List Value)
part_arguments a parts = one_list (map (group_arguments a) parts)

-- the scale of an aggregate's argument
abbrev pub scale_of : Aggregate → ℕ
scale_of CountRows = 0
scale_of (Of function scale e) = scale

-- an aggregate of each of `count` groups, from those of the parts with its number
abbrev pub merged_column : List GroupedPart → List ℕ → ℕ → Aggregate → List Value
merged_column parts numbers count a =
    map (λ ls. (argument_and_function a).1 (one_list ls))
    (lists_by_number numbers (part_arguments a parts) 0 count)

-- The groups of all parts' rows: columns of their keys, the least standings, and the number of each
-- part's groups among them.
pub record AreMerged (by : List ℕ) (parts : List GroupedPart) (keys : List (List Value))
    (least : List Standing) (numbers : List ℕ) (count : ℕ) : Type 0 where
  pub groups : AreGroups by (part_rows parts) keys (group_numbers by (part_rows parts)) count
  pub least_are : AreOfNumbers (least_of (group_numbers by (part_rows parts))
      (row_ranks (part_rows parts))) count (ranks least)
  pub long : length numbers ≡ length (part_keys parts)
  pub few : length numbers < 2 ^ 32
  pub below : AreBelow count numbers
  pub column_is : (a : Aggregate) → merged_column parts numbers count a
      ≡ aggregate_column (part_rows parts) (group_numbers by (part_rows parts)) count a
