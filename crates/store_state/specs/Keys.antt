-- Keys of orders and lineitems.
use Rattle.std.specs.Prelude.{ℕ, Bool, ◌&&◌, List, map, ℤ, pos, slice_index_or, unwrap_or}
use Rattle.std.specs.List.{list_any}
use Rattle.std.specs.Ordering.{int_eq}
use Rattle.base_value.specs.declared.value.Value.{Value}
use Rattle.base_value.specs.declared.value.Value.TheVariants.{Null}
use Rattle.base_columns.specs.Numbers.{small_number}

-- the whole number in a column of a row; 0 where there is none of 64 bits
abbrev pub number_at : ℕ → List Value → ℤ
number_at column row = unwrap_or (small_number (slice_index_or row column Null)) (pos 0)

-- the key of an order; of a lineitem, the key of its order
abbrev pub order_key : List Value → ℤ
order_key = number_at 0

-- the key of a lineitem: its order's key and its line number
abbrev pub line_key : List Value → ℤ × ℤ
line_key row = (order_key row, number_at 3 row)

-- the keys of orders
abbrev pub order_keys : List (List Value) → List ℤ
order_keys = map order_key

-- the keys of lineitems
abbrev pub line_keys : List (List Value) → List (ℤ × ℤ)
line_keys = map line_key

-- the key is one of these
abbrev pub has_key : List ℤ → ℤ → Bool
has_key keys key = list_any (int_eq key) keys

-- two lineitems have the same key
abbrev pub is_same_line : ℤ × ℤ → ℤ × ℤ → Bool
is_same_line a b = int_eq a.0 b.0 && int_eq a.1 b.1

-- a lineitem's key is one of these
abbrev pub has_line : List (ℤ × ℤ) → ℤ × ℤ → Bool
has_line lines line = list_any (is_same_line line) lines
