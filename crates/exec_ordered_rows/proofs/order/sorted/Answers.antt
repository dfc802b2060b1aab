use Rattle.std.proofs.Common.{rules}
use Rattle.std.specs.Ordering.{is_lt}
use Rattle.std.proofs.lemmas.Fn.{always_returns_same}
use Rattle.std.proofs.lemmas.List.Sorted.{All-permutation}
use Rattle.exec_ordered_rows.specs.Sketches.{IsSketched, place_order}
use Rattle.exec_ordered_rows.proofs.PlaceOrders.{place_rank, sorted_rows}
use Rattle.exec_ordered_rows.proofs.order.sorted.Goals as goal

pub returns-clause-rows : goal.returns-clause-rows
returns-clause-rows c =
    let keys = c.args.order.now.keys.now in
    let form = c.args.order.now.form in
    let table = c.args.table.now in
    sorted_rows keys form table c.args.places.items c.sort_by.new.self.items
    (All-permutation (IsSketched keys form table) c.args.places.items c.sort_by.new.self.items
    c.sort_by.ensures.permutation c.requires) c.sort_by.ensures.permutation
    (c.in_ok-sort_by.ensures.sorted (λ p q. is_lt (place_order keys table p q))
    (place_rank keys table) (always_returns_same _ _ _ (λ a r f' k. search rules)))

pub returns-clause-places : goal.returns-clause-places
returns-clause-places c =
    All-permutation (IsSketched c.args.order.now.keys.now c.args.order.now.form c.args.table.now)
    c.args.places.items c.sort_by.new.self.items c.sort_by.ensures.permutation c.requires
