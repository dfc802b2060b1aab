-- Numbers of 64 bits that keep the order of the first column that decides.
use Rattle.std.specs.Prelude.{◌≡◌, ℕ, zero, suc, ◌+◌, ◌*◌, ℤ, pos, negsuc, ◌-ℤ◌, int_lt}
use Rattle.std.specs.Prelude.{List, [], ◌∷◌, nat_lt, if◌then◌else◌, slice_index_or}
use Rattle.std.specs.List.{All}
use Rattle.std.specs.declared.cmp.Ordering.{Ordering}
use Rattle.std.specs.Ordering.{int_cmp, ordering_then}
use Rattle.base_row_laws.specs.Ranked.{Relation}
use Rattle.base_value.specs.declared.value.Value.{Value}
use Rattle.base_value.specs.declared.value.Value.TheVariants.{Null, Fault, Number, Text, Date}
use Rattle.base_columns.specs.declared.column_builder.ColumnForm.{ColumnForm}
use Rattle.base_columns.specs.declared.column_builder.ColumnForm.TheVariants as form
use Rattle.base_order_limit.specs.declared.key.OrderKey.{OrderKey}
use Rattle.base_order_limit.specs.Answers.{answer_order}
use Rattle.exec_ordered_rows.specs.declared.place.RowPlace.{RowPlace}
use Rattle.exec_ordered_rows.specs.Places.{IsThere, placed_row}

-- the least and the greatest number of 64 bits
abbrev pub lowest : ℤ
lowest = negsuc 9223372036854775807

-- a null's too, which comes after all values
abbrev pub highest : ℤ
highest = pos 9223372036854775807

-- a number, or the nearest one of 64 bits
abbrev pub clamped : ℤ → ℤ
clamped c = if int_lt c lowest then lowest else if int_lt highest c then highest else c

-- as large as a number of n bytes more can be
abbrev pub most_after : ℕ → ℕ → ℕ
most_after zero start = start
most_after (suc n) start = most_after n (start * 256 + 255)

-- a number and n bytes of a text after it, 0 past its end
abbrev pub bytes_after : ℕ → ℕ → List ℕ → ℕ
bytes_after zero start text = start
bytes_after (suc n) start [] = bytes_after n (start * 256) []
bytes_after (suc n) start (b ∷ bs) =
    if nat_lt b 256 then bytes_after n (start * 256 + b) bs else most_after (suc n) start

-- the number of a coefficient of a scale beside those of another one
abbrev pub beside : ℕ → ℕ → ℤ → ℤ
beside s t c = if nat_lt t s then lowest else if nat_lt s t then highest else clamped c

-- the number of a value beside values of a form: the less, the earlier
abbrev pub sketch : ColumnForm → Value → ℤ
sketch (form.Numbers s) (Number t c) = beside s t c
sketch (form.Numbers s) (Fault f) = lowest
sketch (form.Numbers s) other = highest
sketch form.Dates (Date d) = clamped (pos d)
sketch form.Dates Null = highest
sketch form.Dates other = lowest
sketch form.Texts (Text t) = clamped (pos (bytes_after 7 0 t))
sketch form.Texts (Date d) = highest
sketch form.Texts Null = highest
sketch form.Texts other = lowest
sketch form.Values v = pos 0

-- that of a row by a key
abbrev pub key_sketch : ColumnForm → OrderKey → List Value → ℤ
key_sketch form key row =
    let n = sketch form (slice_index_or row key.column Null) in
    if key.is_descending then negsuc 0 -ℤ n else n

-- that of a row by its first column
abbrev pub first_sketch : ColumnForm → List Value → ℤ
first_sketch form [] = lowest
first_sketch form (v ∷ vs) = sketch form v

-- that of a row by the first key, or by the first column where there is no key
abbrev pub row_sketch : List OrderKey → ColumnForm → List Value → ℤ
row_sketch [] form row = first_sketch form row
row_sketch (key ∷ keys) form row = key_sketch form key row

-- a place of a row, with that row's number
pub record IsSketched (keys : List OrderKey) (form : ColumnForm) (batches : List (Relation Value))
    (place : RowPlace) : Type 0 where
  pub there : IsThere batches place
  pub sketched : place.sketch ≡ row_sketch keys form (placed_row batches place)

-- each is
abbrev pub AreSketched : List OrderKey → ColumnForm → List (Relation Value) → List RowPlace → Type 0
AreSketched keys form batches places = All (IsSketched keys form batches) places

-- by the numbers, then by the rows
abbrev pub place_order : List OrderKey → List (Relation Value) → RowPlace → RowPlace → Ordering
place_order keys batches p q =
    ordering_then (int_cmp p.sketch q.sketch)
    (answer_order keys (placed_row batches p) (placed_row batches q))
