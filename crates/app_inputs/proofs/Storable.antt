-- Refreshes whose rows or keys some files gave may come to be stored.
use Rattle.std.proofs.Common.{◌≡◌, ℕ, List, Ok, arith}
use Rattle.base_refusals.specs.declared.line.LineRefusal.{LineRefusal}
use Rattle.base_refusals.specs.declared.refresh.RefreshFile.TheVariants as file
use Rattle.base_value.specs.declared.value.Value.{Value}
use Rattle.store_file_reader.specs.File.{most_bytes}
use Rattle.store_refresh_entries.specs.Laws.{DeletesAreReadable, DeletesAreShort, InsertsAreReadable, InsertsAreShort}
use Rattle.store_state.specs.Keys.{order_keys}
use Rattle.store_state.specs.Refresh.{DeleteKeys, InsertRows, MalformedFile}
use Rattle.store_refresh_entries.specs.Change.{MayBeStored}
use Rattle.app_inputs.specs.SetFile.{IsOfFile}
use Rattle.base_refusals.specs.declared.refresh.RefreshFile.{RefreshFile}

pub insert_stored : (readable : InsertsAreReadable) (short : InsertsAreShort) (orders lineitems : List (List Value))
    → IsOfFile file.Orders (Ok orders) → IsOfFile file.Lineitem (Ok lineitems) → MayBeStored (InsertRows orders lineitems)
insert_stored readable short orders lineitems a b =
    (readable most_bytes most_bytes a.0 b.0 orders lineitems a.1 b.1, short a.0 b.0 orders lineitems a.1 b.1)

pub delete_stored : (readable : DeletesAreReadable) (short : DeletesAreShort) (rows : List (List Value)) → IsOfFile file.Delete (Ok rows)
    → MayBeStored (DeleteKeys (order_keys rows))
delete_stored readable short rows a = (readable most_bytes a.0 rows a.1, short a.0 rows a.1)

pub malformed_stored : (f : RefreshFile) (set : ℕ) (first : LineRefusal) → MayBeStored (MalformedFile f set first)
malformed_stored f set first = (tt, omega arith)

pub ruleset stored = (insert_stored, delete_stored, malformed_stored)
