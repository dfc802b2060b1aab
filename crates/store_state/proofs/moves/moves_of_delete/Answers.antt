use Rattle.std.proofs.Common.{◌≡◌, ap, subst, sym, ◌∙◌}
use Rattle.std.proofs.lemmas.List.Elements.{All-filter}
use Rattle.base_schema.specs.declared.table.TableName.TheVariants as table
use Rattle.base_schema.specs.Kinds.{RowIsOf}
use Rattle.store_state.specs.Keys.{has_key, order_key}
use Rattle.store_state.specs.Moves.{AreMoved, no_rows, with_keys}
use Rattle.store_state.specs.Refresh.{DeleteKeys, changed, with_sales}
use Rattle.store_state.proofs.RefreshMoves.{delete_moves, same_keys}
use Rattle.store_state.proofs.moves.moves_of_delete.Goals as goal

pub sales_alone-requires-clause-orders : goal.sales_alone-requires-clause-orders
sales_alone-requires-clause-orders c =
    rw c.in_ok-orders.ensures (All-filter (λ row. has_key c.in_ok-wanted.wanted (order_key row)) (RowIsOf table.Orders) c.table.result.now c.table.ensures.kinds)

pub sales_alone-requires-clause-lineitems : goal.sales_alone-requires-clause-lineitems
sales_alone-requires-clause-lineitems c =
    rw c.in_ok-lineitems.ensures (All-filter (λ row. has_key c.in_ok-wanted.wanted (order_key row)) (RowIsOf table.Lineitem) c.table-2.result.now c.table-2.ensures.kinds)

pub returns : goal.returns
returns c =
    let before = c.args.before.now in
    let keys = c.args.keys.now in
    let wanted = c.in_ok-wanted.wanted in
    let next = changed before (DeleteKeys keys) in
    let orders : c.in_ok-orders.orders ≡ with_keys keys before.orders =
    c.in_ok-orders.ensures ∙ same_keys wanted keys c.table.result.now c.in_ok-wanted.ensures ∙ ap (with_keys keys) c.table.ensures.rows in
    let lineitems : c.in_ok-lineitems.lineitems ≡ with_keys keys before.lineitem =
    c.in_ok-lineitems.ensures ∙ same_keys wanted keys c.table-2.result.now c.in_ok-wanted.ensures ∙ ap (with_keys keys) c.table-2.ensures.rows in
    let is : c.in_ok-removed.removed ≡ with_sales no_rows (with_keys keys before.orders) (with_keys keys before.lineitem) =
    c.in_ok-removed.ensures ∙ ap (λ o. with_sales no_rows o c.in_ok-lineitems.lineitems) orders
    ∙ ap (λ l. with_sales no_rows (with_keys keys before.orders) l) lineitems in
    subst (λ added. AreMoved before added c.in_ok-removed.removed next) (sym c.in_ok-added.ensures)
    (subst (λ removed. AreMoved before no_rows removed next) (sym is) (delete_moves before keys))
