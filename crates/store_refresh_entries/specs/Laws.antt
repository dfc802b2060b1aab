-- Refreshes whose rows or keys the files of a refresh set gave.
use Rattle.std.specs.Prelude.{◌≡◌, ℕ, List, Ok}
use Rattle.base_refusals.specs.declared.refresh.RefreshFile.TheVariants as file
use Rattle.base_value.specs.declared.value.Value.{Value}
use Rattle.base_schema.specs.LineForm.{refresh_form}
use Rattle.store_state.specs.Keys.{order_keys}
use Rattle.store_state.specs.Refresh.{DeleteKeys, InsertRows}
use Rattle.store_file_reader.specs.File.{file_rows, most_bytes}
use Rattle.store_refresh_entries.specs.Change.{IsReadable, HasFewBytes}

-- an insert of the rows that two files gave, within some limits, is read back from its bytes
abbrev pub InsertsAreReadable : Type 0
InsertsAreReadable =
    (limit most : ℕ) (text other : List ℕ) (orders lineitems : List (List Value))
    → file_rows (refresh_form file.Orders) limit text ≡ Ok orders
    → file_rows (refresh_form file.Lineitem) most other ≡ Ok lineitems
    → IsReadable (InsertRows orders lineitems)

-- a delete of the keys that a file gave, within some limit, is read back from its bytes
abbrev pub DeletesAreReadable : Type 0
DeletesAreReadable =
    (limit : ℕ) (text : List ℕ) (rows : List (List Value))
    → file_rows (refresh_form file.Delete) limit text ≡ Ok rows
    → IsReadable (DeleteKeys (order_keys rows))

-- an insert of the rows that two files gave has few bytes
abbrev pub InsertsAreShort : Type 0
InsertsAreShort =
    (text other : List ℕ) (orders lineitems : List (List Value))
    → file_rows (refresh_form file.Orders) most_bytes text ≡ Ok orders
    → file_rows (refresh_form file.Lineitem) most_bytes other ≡ Ok lineitems
    → HasFewBytes (InsertRows orders lineitems)

-- a delete of the keys that a file gave has few bytes
abbrev pub DeletesAreShort : Type 0
DeletesAreShort =
    (text : List ℕ) (rows : List (List Value))
    → file_rows (refresh_form file.Delete) most_bytes text ≡ Ok rows
    → HasFewBytes (DeleteKeys (order_keys rows))
