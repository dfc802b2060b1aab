-- The keys of rows as pairs of numbers, and what is kept of them.
use Rattle.std.specs.Prelude.{◌≡◌, ℤ, pos, Bool, true, false, ◌&&◌, ◌||◌, int_lt, int_le, List, []}
use Rattle.std.specs.Prelude.{slice_index_or, Option, Some, None, ⊤, unwrap_or}
use Rattle.std.specs.List.{All, list_any}
use Rattle.std.specs.Ordering.{int_eq}
use Rattle.base_value.specs.declared.value.Value.{Value}
use Rattle.base_value.specs.declared.value.Value.TheVariants as value
use Rattle.base_columns.specs.Numbers.{small_number}
use Rattle.base_schema.specs.LineForm.{LineForm, key_of}
use Rattle.store_file_reader.specs.declared.key.Key.{Key}
use Rattle.store_file_reader.specs.declared.key.Keys.{Keys}
use Rattle.store_file_reader.specs.declared.key.Keys.TheVariants.{Ascending, Hashed, Lost}

-- the number of a key's value; 0 where there is none of 64 bits
abbrev pub key_number : Value → ℤ
key_number v = unwrap_or (small_number v) (pos 0)

-- the numbers of a row's key; the second is 0 if the key has one column
abbrev pub row_key : LineForm → List Value → Key
row_key form row = record {
  first = key_number (slice_index_or (key_of form row) 0 value.Null);
  second = key_number (slice_index_or (key_of form row) 1 value.Null);
}

-- two keys are the same
abbrev pub same_key : Key → Key → Bool
same_key k l = int_eq k.first l.first && int_eq k.second l.second

-- one key is above another, by the first numbers, or by the second ones where it isn't below by the
-- first
abbrev pub is_above : Key → Key → Bool
is_above k l = int_lt l.first k.first || (int_le l.first k.first && int_lt l.second k.second)

-- a key is above the last one, if there is one
abbrev pub comes_after : Key → Option Key → Bool
comes_after k None = true
comes_after k (Some last) = is_above k last

-- two lists have the same keys, however often
pub record SameKeys (some others : List Key) : Type 0 where
  pub members : (k : Key) → list_any (same_key k) some ≡ list_any (same_key k) others

-- what is kept tells which keys there are: none is above the last one, or the set has them
abbrev pub AreKeys : Keys → List Key → Type 0
AreKeys (Ascending None) keys = keys ≡ []
AreKeys (Ascending (Some last)) keys = All (λ k. is_above k last ≡ false) keys
AreKeys (Hashed set) keys = SameKeys set keys
AreKeys Lost keys = ⊤
