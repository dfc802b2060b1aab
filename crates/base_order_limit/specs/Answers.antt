-- The rows of an answer in order, or the least fault.
use Rattle.std.specs.Prelude.{ℕ, Bool, List, [], ◌∷◌, map, min, nat_lt, take, Option, Some, None}
use Rattle.std.specs.Prelude.{Result, Ok, Err, if◌then◌else◌, slice_index_or}
use Rattle.std.specs.declared.cmp.Ordering.{Ordering}
use Rattle.std.specs.Ordering.{is_le, ordering_then, ordering_reverse}
use Rattle.base_row_laws.specs.Aggregates.{run}
use Rattle.base_row_laws.specs.Bags.{bottom}
use Rattle.base_row_laws.specs.Ranked.{Ranked, true_rank}
use Rattle.base_value.specs.declared.value.Value.{Value}
use Rattle.base_value.specs.declared.value.Value.TheVariants.{Null}
use Rattle.base_value.specs.Value.{value_cmp, row_cmp}
use Rattle.expr_aggregates.specs.Values.{written, value_rank}
use Rattle.base_order_limit.specs.declared.key.OrderKey.{OrderKey}

-- the rank of a row's least fault, in its standing or in a column; True's where there is none
abbrev pub row_rank : Ranked Value → ℕ
row_rank x = min x.standing (bottom true_rank value_rank x.values)

-- the values of a row
abbrev pub row_values : Ranked Value → List Value
row_values x = x.values

-- the rank of the least fault of all rows, True's where there is none
abbrev pub least_rank : List (Ranked Value) → ℕ
least_rank xs = bottom true_rank row_rank xs

-- one column: ascending with nulls last, or turned round
abbrev pub key_order : OrderKey → List Value → List Value → Ordering
key_order key x y =
    let order = value_cmp (slice_index_or x key.column Null) (slice_index_or y key.column Null) in
    if key.is_descending then ordering_reverse order else order

-- by the keys from left to right, then by all columns from left to right ascending
abbrev pub answer_order : List OrderKey → List Value → List Value → Ordering
answer_order [] x y = row_cmp x y
answer_order (key ∷ keys) x y = ordering_then (key_order key x y) (answer_order keys x y)

-- whether a row does not come after another
abbrev pub comes_before : List OrderKey → List Value → List Value → Bool
comes_before keys x y = is_le (answer_order keys x y)

-- a row put before the first one that it comes before
abbrev pub inserted : (List Value → List Value → Bool) → List Value → List (List Value)
    → List (List Value)
inserted before x [] = x ∷ []
inserted before x (y ∷ ys) = if before x y then x ∷ y ∷ ys else y ∷ inserted before x ys

-- the rows in order
abbrev pub in_order : (List Value → List Value → Bool) → List (List Value) → List (List Value)
in_order before = run (inserted before) []

-- the first rows, as many as the limit says
abbrev pub limited : Option ℕ → List (List Value) → List (List Value)
limited None xs = xs
limited (Some n) xs = take n xs

-- the rows in order up to the limit; or, where a row has a fault, the least fault, as a value
abbrev pub finished : List OrderKey → Option ℕ → List (Ranked Value)
    → Result (List (List Value)) Value
finished keys limit xs =
    if nat_lt (least_rank xs) true_rank then Err (written (least_rank xs))
    else Ok (limited limit (in_order (comes_before keys) (map row_values xs)))
