-- The rows of tables, which all stand at True.
use Rattle.std.specs.Prelude.{◌≡◌, ℕ, ◌<◌, ◌≤◌, ◌^◌, ◌++◌, List, length, map}
use Rattle.std.specs.List.{All}
use Rattle.base_row_laws.specs.Ranked.{Ranked, ranked, Relation, true_rank}
use Rattle.base_value.specs.declared.value.Value.{Value}
use Rattle.base_columns.specs.Lists.{one_list}

-- the values of rows, whatever their standings
abbrev pub plain_rows : List (Ranked Value) → List (List Value)
plain_rows rows = map (λ r. r.values) rows

-- rows of these values, all at True
abbrev pub standing_rows : List (List Value) → List (Ranked Value)
standing_rows rows = map (λ values. ranked values true_rank) rows

-- a batch may be stored: it has 1 to 4096 rows of its width, all at True
pub record IsStored (batch : Relation Value) : Type 0 where
  pub some : 0 < length batch.rows
  pub most : length batch.rows ≤ 4096
  pub stand : All (λ r. r.standing ≡ true_rank) batch.rows
  pub wide : All (λ r. length r.values ≡ batch.width) batch.rows

-- a batch may get more rows before it is stored
pub record IsOpen (batch : Relation Value) : Type 0 where
  pub most : length batch.rows ≤ 4096
  pub stand : All (λ r. r.standing ≡ true_rank) batch.rows
  pub wide : All (λ r. length r.values ≡ batch.width) batch.rows

-- the rows of a table under way: their width, and the list of their values
pub record Table : Type 0 where
  pub width : ℕ
  pub rows : List (List Value)

-- full segments, and the rows that come after them
unfoldable pub table_under_way : List (List (List Value)) → Relation Value → Table
table_under_way full rest =
    record { width = rest.width; rows = one_list full ++ plain_rows rest.rows }

-- each segment is full, and there aren't too many
pub record AreFull (full : List (List (List Value))) : Type 0 where
  pub each : All (λ segment. length segment ≡ 4096) full
  pub few : length full < 2 ^ 50
