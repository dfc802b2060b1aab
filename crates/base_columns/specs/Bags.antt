-- Batches, one after the other.
use Rattle.std.specs.Prelude.{◌≡◌, ℕ, List, map}
use Rattle.std.specs.List.{All}
use Rattle.base_row_laws.specs.Ranked.{Ranked, Relation, relation}
use Rattle.base_value.specs.declared.value.Value.{Value}
use Rattle.base_columns.specs.Lists.{one_list}

-- the rows of all batches
abbrev pub bag_rows : List (Relation Value) → List (Ranked Value)
bag_rows batches = one_list (map (λ b. b.rows) batches)

-- the relation of a width and batches
unfoldable pub bag_relation : ℕ → List (Relation Value) → Relation Value
bag_relation width batches = relation width (bag_rows batches)

-- each batch has this width
abbrev pub AreWide : ℕ → List (Relation Value) → Type 0
AreWide width batches = All (λ b. b.width ≡ width) batches
