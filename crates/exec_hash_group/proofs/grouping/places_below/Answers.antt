use Rattle.std.proofs.Common.{◌≡◌, ◌+◌, ◌++◌, ◌∷◌, [], ap, sym, ◌∙◌, arith}
use Rattle.std.specs.List.{range_with_len}
use Rattle.exec_hash_group.proofs.Ranks.{range_more}
use Rattle.exec_hash_group.proofs.grouping.places_below.Goals as goal

pub loop-i-preserved : goal.loop-i-preserved
loop-i-preserved c =
    let z : c.loop-i.i ≡ 0 + c.loop-i.i = omega arith in
    c.in_ok-push.ensures.ok ∙ ap (λ l. l ++ c.loop-i.i ∷ []) c.loop-i.invariant ∙ ap (λ k. range_with_len 0 c.loop-i.i ++ k ∷ []) z ∙ sym (range_more 0 c.loop-i.i)
