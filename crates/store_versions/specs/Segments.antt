-- Tables that lie in whole segments.
use Rattle.std.specs.Prelude.{◌≡◌, ◌+◌, ◌<◌, ◌≤◌, List, [], ◌∷◌, length, map}
use Rattle.std.specs.List.{All}
use Rattle.base_value.specs.declared.value.Value.{Value}
use Rattle.base_schema.specs.State.{table_rows}
use Rattle.base_schema.specs.Tables.{all_tables}
use Rattle.base_columns.specs.Lists.{one_list}
use Rattle.store_versions.specs.Trials.{Trials, tables_of}

-- a segment does not fit in one with the first of those after it
abbrev pub FitsNoNext : List (List Value) → List (List (List Value)) → Type 0
FitsNoNext segment [] = Unit {0}
FitsNoNext segment (next ∷ more) = 4096 < length segment + length next

-- no two neighbours fit in one segment
abbrev pub AreApart : List (List (List Value)) → Type 0
AreApart [] = Unit {0}
AreApart (segment ∷ more) = FitsNoNext segment more × AreApart more

-- a segment has rows, and at most 4096
abbrev pub IsShort : List (List Value) → Type 0
IsShort segment = (0 < length segment) × (length segment ≤ 4096)

-- segments of at most 4096 rows, of which no two neighbours fit in one
pub record AreJoined (segments : List (List (List Value))) : Type 0 where
  pub short : All IsShort segments
  pub apart : AreApart segments

-- a version, and the segments of each of its tables, in the schema's order of tables
pub record Compaction : Type 0 where
  pub version : Trials
  pub tables : List (List (List (List Value)))

-- the same version, whose tables' rows are those of joined segments
pub record IsCompacted (version : Trials) (compaction : Compaction) : Type 0 where
  pub same : compaction.version ≡ version
  pub rows : map one_list compaction.tables ≡ map (table_rows (tables_of version)) all_tables
  pub joined : All AreJoined compaction.tables
