use Rattle.std.proofs.Common.{◌<◌, ◌+◌, ◌++◌, ℤ, List, length, take, get_or, ap, sym, ◌∙◌, arith}
use Rattle.std.specs.Prelude.{pos}
use Rattle.std.proofs.lemmas.List.{get_or_default}
use Rattle.base_row_laws.specs.Places.{places_where}
use Rattle.base_key_tables.specs.Keys.{same_two}
use Rattle.exec_hash_group.specs.Filled.{or_place, places_from}
use Rattle.exec_hash_group.proofs.FilledRows.{no_places, places_more}
use Rattle.exec_hash_group.proofs.filling.filled_places.Goals as goal

pub loop-i-init : goal.loop-i-init
loop-i-init c = c.in_ok-places.ensures.items ∙ no_places (length c.args.right.now) c.args.right.now

pub loop-i-preserved : goal.loop-i-preserved
loop-i-preserved c =
    let left : List (ℤ × ℤ) = c.args.left.now in
    let right : List (ℤ × ℤ) = c.args.right.now in
    let d : ℤ × ℤ = (pos 0, pos 0) in
    let lt : c.loop-i.i < length c.args.left.now = omega arith in
    let key : ℤ × ℤ = get_or left c.loop-i.i d in
    c.in_ok-put_places.ensures
    ∙ ap (λ l. l ++ or_place (places_where (same_two key) c.in_ok-chains.chains) (length right + c.loop-i.i)) c.loop-i.invariant
    ∙ ap (λ r. places_from (length right) (take c.loop-i.i left) right ++ or_place (places_where (same_two key) r) (length right + c.loop-i.i)) c.in_ok-chains.ensures
    ∙ sym (places_more (length right) left right c.loop-i.i key lt (get_or_default left c.loop-i.i d key lt))
