use Rattle.std.proofs.Common.{◌≡◌, ap, subst, sym, ◌∙◌}
use Rattle.store_state.specs.Moves.{AreMoved, no_rows}
use Rattle.store_state.specs.Refresh.{InsertRows, changed, with_sales}
use Rattle.store_state.proofs.RefreshMoves.{insert_moves}
use Rattle.store_state.proofs.moves.moves_of_insert.Goals as goal

pub returns : goal.returns
returns c = λ before.
    let orders = c.args.orders.now in
    let lineitems = c.args.lineitems.now in
    let next = changed before (InsertRows orders lineitems) in
    let is : c.in_ok-added.added ≡ with_sales no_rows orders lineitems =
    c.in_ok-added.ensures ∙ ap (λ o. with_sales no_rows o c.in_ok-lineitems.lineitems) c.in_ok-orders.ensures
    ∙ ap (λ l. with_sales no_rows orders l) c.in_ok-lineitems.ensures in
    subst (λ added. AreMoved before added c.in_ok-removed.removed next) (sym is)
    (subst (λ removed. AreMoved before (with_sales no_rows orders lineitems) removed next) (sym c.in_ok-removed.ensures) (insert_moves before orders lineitems))
