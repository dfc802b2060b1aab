-- Refreshes that the files of a folder give.
use Rattle.std.proofs.Common.{◌≡◌, ℕ, List, [], ◌∷◌, Option, Some, None, refl, subst}
use Rattle.std.specs.List.{AllByRecursion}
use Rattle.std.specs.declared.result.Result.{Result}
use Rattle.std.specs.declared.result.Result.TheVariants.{Ok, Err}
use Rattle.base_io.specs.Outside.{Folder, file_of}
use Rattle.base_refusals.specs.declared.line.LineRefusal.{LineRefusal}
use Rattle.base_refusals.specs.declared.refresh.RefreshFile.{RefreshFile}
use Rattle.base_refusals.specs.declared.refresh.RefreshFile.TheVariants.{Orders, Lineitem, Delete}
use Rattle.base_schema.specs.LineForm.{refresh_form}
use Rattle.base_value.specs.declared.value.Value.{Value}
use Rattle.sql_ast.specs.declared.statement.RefreshKind.{RefreshKind}
use Rattle.sql_ast.specs.declared.statement.RefreshKind.TheVariants as kind
use Rattle.store_file_reader.specs.File.{file_rows, most_bytes}
use Rattle.store_state.specs.Keys.{order_keys}
use Rattle.store_state.specs.Refresh.{Change, DeleteKeys, InsertRows, MalformedFile}
use Rattle.app_job_file.specs.declared.job.Mention.{Mention}
use Rattle.app_inputs.specs.Inputs.{BadInput, and_then, changes_in, delete_of, insert_of, refresh_in, set_file, set_rows, set_rows_in}

-- what is read on, of what was read before
and_ok : {A B : Type 0} (read : Result A BadInput) (further : A → Result B BadInput) (all : B) → and_then read further ≡ Ok all
    → (before : A) × (read ≡ Ok before) × (further before ≡ Ok all)
and_ok (Ok before) further all e = (before, refl, e)
and_ok (Err refused) further all e = absurd cc

same : {A : Type 0} (x y : A) → ◌≡◌ {A = Result A BadInput} (Ok x) (Ok y) → x ≡ y
same x y e = cc

-- what was read is what a text gives
abbrev FromText : RefreshFile → Result (List (List Value)) LineRefusal → Type 0
FromText file read = (text : List ℕ) × (file_rows (refresh_form file) most_bytes text ≡ read)

from_file : (name : List ℕ) (file : RefreshFile) (held : Option (List ℕ)) (read : Result (List (List Value)) LineRefusal) → set_rows name file held ≡ Ok read → FromText file read
from_file name file None read e = absurd cc
from_file name file (Some text) read e = (text, same (file_rows (refresh_form file) most_bytes text) read e)

from_set : (dir : List ℕ) (file : RefreshFile) (set : ℕ) (folder : Folder) (read : Result (List (List Value)) LineRefusal) → set_rows_in dir file set folder ≡ Ok read → FromText file read
from_set dir file set folder read e = from_file (set_file dir file set) file (file_of folder (set_file dir file set)) read e

-- what holds of a malformed refresh, and of one whose files gave rows or keys
module _ (P : Change → Type 0)
    (malformed : (file : RefreshFile) (set : ℕ) (first : LineRefusal) → P (MalformedFile file set first))
    (inserts : (text other : List ℕ) (orders lineitems : List (List Value)) → file_rows (refresh_form Orders) most_bytes text ≡ Ok orders
    → file_rows (refresh_form Lineitem) most_bytes other ≡ Ok lineitems → P (InsertRows orders lineitems))
    (deletes : (text : List ℕ) (rows : List (List Value)) → file_rows (refresh_form Delete) most_bytes text ≡ Ok rows → P (DeleteKeys (order_keys rows))) where
  insert_has : (set : ℕ) (orders lineitems : Result (List (List Value)) LineRefusal) → FromText Orders orders → FromText Lineitem lineitems → P (insert_of set orders lineitems)
  insert_has set (Err first) lineitems a b = malformed Orders set first
  insert_has set (Ok orders) (Err first) a b = malformed Lineitem set first
  insert_has set (Ok orders) (Ok lineitems) a b = inserts a.0 b.0 orders lineitems a.1 b.1

  delete_has : (set : ℕ) (keys : Result (List (List Value)) LineRefusal) → FromText Delete keys → P (delete_of set keys)
  delete_has set (Err first) a = malformed Delete set first
  delete_has set (Ok keys) a = deletes a.0 keys a.1

  refresh_has : (dir : List ℕ) (k : RefreshKind) (set : ℕ) (folder : Folder) (change : Change) → refresh_in dir k set folder ≡ Ok change → P change
  refresh_has dir kind.Insert set folder change e =
      let orders = and_ok (set_rows_in dir Orders set folder) _ change e in
      let lineitems = and_ok (set_rows_in dir Lineitem set folder) _ change orders.2 in
      subst P (same (insert_of set orders.0 lineitems.0) change lineitems.2)
      (insert_has set orders.0 lineitems.0 (from_set dir Orders set folder orders.0 orders.1) (from_set dir Lineitem set folder lineitems.0 lineitems.1))
  refresh_has dir kind.Delete set folder change e =
      let keys = and_ok (set_rows_in dir Delete set folder) _ change e in
      subst P (same (delete_of set keys.0) change keys.2) (delete_has set keys.0 (from_set dir Delete set folder keys.0 keys.1))

  pub changes_have : (dir : List ℕ) (mentions : List Mention) (folder : Folder) (list : List Change) → changes_in dir mentions folder ≡ Ok list → AllByRecursion P list
  changes_have dir [] folder list e = subst (AllByRecursion P) (same [] list e) tt
  changes_have dir (m ∷ mentions) folder list e =
      let first = and_ok (refresh_in dir m.change m.set folder) _ list e in
      let others = and_ok (changes_in dir mentions folder) _ list first.2 in
      subst (AllByRecursion P) (same (first.0 ∷ others.0) list others.2)
      (refresh_has dir m.change m.set folder first.0 first.1, changes_have dir mentions folder others.0 others.1)
