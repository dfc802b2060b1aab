-- The rows that refreshes add and remove.
use Rattle.std.proofs.Common.{◌≡◌, ℤ, List, [], ◌++◌, sym, subst}
use Rattle.std.proofs.lemmas.List.{append-nil}
use Rattle.base_row_laws.specs.Bags.{SameBag}
use Rattle.base_row_laws.proofs.Bags.{SameBag-refl, parts_by_test}
use Rattle.base_schema.specs.State.{State}
use Rattle.base_schema.specs.declared.table.TableName.TheVariants as table
use Rattle.base_value.specs.declared.value.Value.{Value}
use Rattle.std.specs.List.{filter}
use Rattle.store_state.specs.Found.{HasSameKeys}
use Rattle.store_state.specs.Keys.{has_key, order_key}
use Rattle.store_state.specs.Moves.{AreMoved, IsMoved, no_rows, with_keys}
use Rattle.store_state.specs.Refresh.{DeleteKeys, InsertRows, changed, with_sales, without_keys}

-- a table that stays
stays : (rows : List (List Value)) → IsMoved rows [] [] rows
stays rows = record {
  rest = rows;
  before = SameBag-refl rows;
  after = subst (SameBag rows) (sym (append-nil rows)) (SameBag-refl rows);
}

grows : (rows more : List (List Value)) → IsMoved rows more [] (rows ++ more)
grows rows more = record {
  rest = rows;
  before = SameBag-refl rows;
  after = SameBag-refl (rows ++ more);
}

shrinks : (keys : List ℤ) (rows : List (List Value)) → IsMoved rows [] (with_keys keys rows) (without_keys keys rows)
shrinks keys rows = record {
  rest = without_keys keys rows;
  before = parts_by_test (λ row. has_key keys (order_key row)) rows;
  after = subst (SameBag (without_keys keys rows)) (sym (append-nil (without_keys keys rows))) (SameBag-refl (without_keys keys rows));
}

pub nothing_moved : (before : State) → AreMoved before no_rows no_rows before
nothing_moved before table.Region = stays before.region
nothing_moved before table.Nation = stays before.nation
nothing_moved before table.Part = stays before.part
nothing_moved before table.Supplier = stays before.supplier
nothing_moved before table.Partsupp = stays before.partsupp
nothing_moved before table.Customer = stays before.customer
nothing_moved before table.Orders = stays before.orders
nothing_moved before table.Lineitem = stays before.lineitem

pub insert_moves : (before : State) (orders lineitems : List (List Value))
    → AreMoved before (with_sales no_rows orders lineitems) no_rows (changed before (InsertRows orders lineitems))
insert_moves before orders lineitems table.Region = stays before.region
insert_moves before orders lineitems table.Nation = stays before.nation
insert_moves before orders lineitems table.Part = stays before.part
insert_moves before orders lineitems table.Supplier = stays before.supplier
insert_moves before orders lineitems table.Partsupp = stays before.partsupp
insert_moves before orders lineitems table.Customer = stays before.customer
insert_moves before orders lineitems table.Orders = grows before.orders orders
insert_moves before orders lineitems table.Lineitem = grows before.lineitem lineitems

pub delete_moves : (before : State) (keys : List ℤ)
    → AreMoved before no_rows (with_sales no_rows (with_keys keys before.orders) (with_keys keys before.lineitem)) (changed before (DeleteKeys keys))
delete_moves before keys table.Region = stays before.region
delete_moves before keys table.Nation = stays before.nation
delete_moves before keys table.Part = stays before.part
delete_moves before keys table.Supplier = stays before.supplier
delete_moves before keys table.Partsupp = stays before.partsupp
delete_moves before keys table.Customer = stays before.customer
delete_moves before keys table.Orders = shrinks keys before.orders
delete_moves before keys table.Lineitem = shrinks keys before.lineitem

-- sets of the same keys have the same rows
pub same_keys : (wanted keys : List ℤ) (rows : List (List Value)) → HasSameKeys wanted keys → with_keys wanted rows ≡ with_keys keys rows
same_keys wanted keys rows same = λ i. filter (λ row. same (order_key row) i) rows
