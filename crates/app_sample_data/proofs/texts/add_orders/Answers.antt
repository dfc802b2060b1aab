use Rattle.std.proofs.Common.{ℕ, ◌+◌, ◌*◌, List, [], ◌∷◌}
use Rattle.std.specs.Prelude.{codes}
use Rattle.app_sample_data.proofs.Steps.{none_added, text_added}
use Rattle.app_sample_data.specs.Lines.{lines, order_line, order_lineitems}
use Rattle.app_sample_data.specs.Texts.{ordered, named}
use Rattle.app_sample_data.proofs.texts.add_orders.Goals as goal

pub returns : goal.returns
unfolding ordered
returns c =
    let n = c.args.number in
    let start = named c.args.texts.now.items in
    let orders : List ℕ × List ℕ = (codes "orders.tbl", lines (order_line n) 1 (30 * n + 1)) in
    let with_orders = text_added start _ _ ([]) (codes "orders.tbl") _ (lines (order_line n) 1 (30 * n + 1)) (none_added start) c.in_ok-add.ensures c.in_ok-order_text.ensures in
    text_added start _ _ (orders ∷ []) (codes "lineitem.tbl") _ (lines (order_lineitems n) 1 (30 * n + 1)) with_orders c.in_ok-add-2.ensures c.in_ok-lineitem_text.ensures
