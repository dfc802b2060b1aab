use Rattle.std.proofs.Common.{ℕ, ◌+◌, ◌*◌, List, [], ◌∷◌}
use Rattle.std.specs.Prelude.{codes}
use Rattle.app_sample_data.proofs.Steps.{none_added, text_added}
use Rattle.app_sample_data.specs.Lines.{lines, delete_line, order_line, order_lineitems}
use Rattle.app_sample_data.specs.Texts.{refresh_set, named}
use Rattle.app_sample_data.proofs.texts.add_refresh_set.Goals as goal

pub returns : goal.returns
unfolding refresh_set
returns c =
    let n = c.args.number in
    let start = named c.args.texts.now.items in
    let orders : List ℕ × List ℕ = (codes "orders.tbl.u1", lines (order_line n) (30 * n + 1) (33 * n + 1)) in
    let with_orders = text_added start _ _ ([]) (codes "orders.tbl.u1") _ (lines (order_line n) (30 * n + 1) (33 * n + 1)) (none_added start) c.in_ok-add.ensures c.in_ok-order_text.ensures in
    let lineitems : List ℕ × List ℕ = (codes "lineitem.tbl.u1", lines (order_lineitems n) (30 * n + 1) (33 * n + 1)) in
    let with_lineitems = text_added start _ _ (orders ∷ []) (codes "lineitem.tbl.u1") _ (lines (order_lineitems n) (30 * n + 1) (33 * n + 1)) with_orders c.in_ok-add-2.ensures c.in_ok-lineitem_text.ensures in
    text_added start _ _ (orders ∷ lineitems ∷ []) (codes "delete.1") _ (lines delete_line 1 (3 * n + 1)) with_lineitems c.in_ok-add-3.ensures c.in_ok-delete_text.ensures
