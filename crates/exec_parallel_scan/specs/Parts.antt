-- What threads make of parts, put together.
use Rattle.std.specs.Prelude.{◌≡◌, ℕ, List, [], Bool, true, false, IsTrue, IfOk, Result, Ok, Err}
use Rattle.std.specs.Prelude.{map}
use Rattle.std.specs.List.{All}
use Rattle.std.specs.Global.{Vec}
use Rattle.base_row_laws.specs.Ranked.{Ranked, Relation}
use Rattle.base_value.specs.declared.value.Value.{Value}
use Rattle.base_columns.specs.Bags.{bag_rows, AreWide}
use Rattle.base_columns.specs.Lists.{one_list}

-- a part's batches have this width, where memory sufficed for them
abbrev pub IsPartWide : {E : Type 0} → ℕ → Result (Vec (Relation Value)) E → Type 0
IsPartWide width part = IfOk part (λ batches. AreWide width batches.items)

-- the rows of a part; none where memory ran out
abbrev pub rows_of_part : {E : Type 0} → Result (Vec (Relation Value)) E → List (Ranked Value)
rows_of_part (Ok batches) = bag_rows batches.items
rows_of_part (Err e) = []

-- whether memory sufficed for a part
abbrev pub is_made : {E : Type 0} → Result (Vec (Relation Value)) E → Bool
is_made (Ok batches) = true
is_made (Err e) = false

-- memory sufficed for each part, and these are their rows in the order of the parts
pub record ArePartsJoined {E : Type 0} (parts : List (Result (Vec (Relation Value)) E))
    (rows : List (Ranked Value)) : Type 0 where
  pub made : All (λ part. IsTrue (is_made part)) parts
  pub rows_are : rows ≡ one_list (map rows_of_part parts)
