use Rattle.std.proofs.Common.{◌∙◌, ◌++◌, ◌∷◌, [], ap, length, sym}
use Rattle.store_groups.specs.Shelves.{groups_in, total}
use Rattle.store_groups.proofs.ShelfLists.{full_with, one_more, seen, seen_is}
use Rattle.store_groups.proofs.shelf.Shelf.with.Goals as goal

pub invariant_of-result : goal.invariant_of-result
invariant_of-result c =
    ap total (c.in_ok-push.ensures.items
    ∙ ap (λ l. l ++ c.head.result ∷ []) (c.in_ok-extend_from_slice.ensures.items ∙ ap (λ l. l ++ c.as_slice.result.now) c.in_ok-heads.ensures.items ∙ c.as_slice.ensures.value))
    ∙ full_with c.self.inside.heads.items c.self.inside.cells c.cells.result.now c.head.result c.self.invariant (c.head.ensures.count ∙ ap length (sym c.cells.ensures))
    ∙ ap length (sym (c.in_ok-cells.ensures ∙ ap (λ l. l ++ c.cells.result.now) c.all.ensures))

pub returns : goal.returns
returns c =
    ap (λ l. groups_in l c.in_ok-cells.cells) (c.in_ok-push.ensures.items
    ∙ ap (λ l. l ++ c.head.result ∷ []) (c.in_ok-extend_from_slice.ensures.items ∙ ap (λ l. l ++ c.as_slice.result.now) c.in_ok-heads.ensures.items ∙ c.as_slice.ensures.value))
    ∙ ap (λ l. groups_in (c.self.inside.heads.items ++ c.head.result ∷ []) l) (c.in_ok-cells.ensures ∙ ap (λ l. l ++ c.cells.result.now) c.all.ensures)
    ∙ one_more c.self.inside.heads.items c.self.inside.cells c.cells.result.now c.head.result c.self.invariant (c.head.ensures.count ∙ ap length (sym c.cells.ensures))
    ∙ ap (λ l. l ++ seen c.head.result c.cells.result.now ∷ []) c.self.view_is
    ∙ ap (λ g. c.args.self.now ++ g ∷ []) (seen_is c.head.result c.args.group.now c.cells.result.now c.head.ensures.rows c.head.ensures.least c.cells.ensures)
