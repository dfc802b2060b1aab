-- A refresh as one list of bytes.
use Rattle.std.specs.Prelude.{◌≡◌, ◌<◌, ◌^◌, ℕ, List, [], ◌∷◌, ◌++◌, length}
use Rattle.base_refusals.specs.declared.refresh.RefreshFile.TheVariants as file
use Rattle.base_value.specs.declared.value.Value.{Value}
use Rattle.store_state.specs.Keys.{order_keys}
use Rattle.store_state.specs.Refresh.{Change, DeleteKeys, InsertRows, MalformedFile}
use Rattle.store_journal.specs.Format.{framed}
use Rattle.store_refresh_text.specs.Laws.{IsTextOf}
use Rattle.store_refresh_text.specs.Text.{keys_text, rows_text}

-- an insert: 1, the length of the orders' text and that text, and the lineitems' text; a delete: 2
-- and the keys' text
abbrev pub spelling_of : Change → List ℕ
spelling_of (InsertRows orders lineitems) = 1 ∷ (framed (rows_text orders) ++ rows_text lineitems)
spelling_of (DeleteKeys keys) = 2 ∷ keys_text keys
spelling_of (MalformedFile file set refusal) = []

-- a refresh that is read back from its texts, as the files of a refresh set are read; they may be
-- of any length
abbrev pub IsReadable : Change → Type 0
IsReadable (InsertRows orders lineitems) =
    IsTextOf file.Orders (rows_text orders) orders
    × IsTextOf file.Lineitem (rows_text lineitems) lineitems
IsReadable (DeleteKeys keys) = (rows : List (List Value))
    × IsTextOf file.Delete (keys_text keys) rows × (order_keys rows ≡ keys)
IsReadable (MalformedFile file set refusal) = ⊥

-- the bytes spell a refresh that is read back
abbrev pub IsSpelled : List ℕ → Type 0
IsSpelled bytes = (change : Change) × IsReadable change × (spelling_of change ≡ bytes)

-- of all refreshes that are read back only this one may be spelled by these bytes, and where it is,
-- it is read back
pub record MayBe (bytes : List ℕ) (change : Change) : Type 0 where
  pub only : (other : Change) → IsReadable other → spelling_of other ≡ bytes → other ≡ change
  pub readable : spelling_of change ≡ bytes → IsReadable change

-- no refresh that is read back is spelled by the bytes
pub record IsNone (bytes : List ℕ) : Type 0 where
  pub none : (other : Change) → IsReadable other → spelling_of other ≡ bytes → ⊥

-- a refresh that may come to be stored: one that is read back, or a malformed one, which no state
-- accepts
abbrev pub IsStorable : Change → Type 0
IsStorable (InsertRows orders lineitems) = IsReadable (InsertRows orders lineitems)
IsStorable (DeleteKeys keys) = IsReadable (DeleteKeys keys)
IsStorable (MalformedFile file set refusal) = Unit {0}

-- a refresh of few bytes: those of files of at most 2^32 bytes are
abbrev pub HasFewBytes : Change → Type 0
HasFewBytes change = length (spelling_of change) < 2 ^ 43

-- a refresh that may come to be stored, and has few bytes then
abbrev pub MayBeStored : Change → Type 0
MayBeStored change = IsStorable change × HasFewBytes change
