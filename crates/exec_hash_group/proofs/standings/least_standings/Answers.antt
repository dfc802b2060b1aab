use Rattle.std.proofs.Common.{◌<◌, length, get_or, refl, arith}
use Rattle.std.proofs.lemmas.List.{get_or_default}
use Rattle.exec_hash_group.proofs.Ranks.{least_none, least_standing_more}
use Rattle.exec_hash_group.proofs.standings.least_standings.Goals as goal

pub loop-i-init : goal.loop-i-init
loop-i-init c = least_none c.args.count c.in_ok-least.least.items (c.in_ok-least.ensures.items_if_clones_equal (λ y h. h))

pub loop-i-preserved : goal.loop-i-preserved
loop-i-preserved c =
    let li : c.loop-i.i < length c.args.numbers.now = omega arith in
    let la : c.loop-i.i < length c.args.standings.now = omega (arith, c.requires.rows) in
    least_standing_more c.args.numbers.now c.args.standings.now c.loop-i.least.items _ c.loop-i.i (get_or c.args.numbers.now c.loop-i.i 0) c.args.count c.index.result.now _ c.lesser.result
    li c.requires.rows (get_or_default c.args.numbers.now c.loop-i.i 0 _ li) (c.requires.numbers c.loop-i.i 0 li) c.loop-i.invariant
    c.index.ensures (get_or_default c.args.standings.now c.loop-i.i _ _ la) c.lesser.ensures.rank refl
