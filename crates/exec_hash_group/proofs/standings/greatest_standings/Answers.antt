use Rattle.std.proofs.Common.{◌<◌, length, get_or, refl, ◌∙◌, arith}
use Rattle.std.proofs.lemmas.List.{get_or_default, length-map}
use Rattle.base_value.specs.Truth.{standing_rank}
use Rattle.exec_hash_group.specs.Standings.{ranks}
use Rattle.exec_hash_group.proofs.Ranks.{greatest_standing_more, greatest_all}
use Rattle.exec_hash_group.proofs.standings.greatest_standings.Goals as goal

pub loop-i-preserved : goal.loop-i-preserved
loop-i-preserved c =
    let li : c.loop-i.i < length c.args.numbers.now = omega arith in
    let la : c.loop-i.i < length c.args.standings.now = omega (arith, c.requires.rows) in
    greatest_standing_more (λ n. get_or (ranks c.args.standings.now) (get_or c.args.firsts.now n 0) 0) c.args.numbers.now c.args.standings.now c.loop-i.greatest.items _ c.loop-i.i
    (get_or c.args.numbers.now c.loop-i.i 0) (length c.args.firsts.now) c.index.result.now _ c.greater.result
    li c.requires.rows (get_or_default c.args.numbers.now c.loop-i.i 0 _ li) (c.requires.numbers c.loop-i.i 0 li) c.loop-i.invariant
    c.index.ensures (get_or_default c.args.standings.now c.loop-i.i _ _ la) c.greater.ensures.rank refl

pub returns : goal.returns
returns c =
    greatest_all c.args.numbers.now (ranks c.args.standings.now) c.args.firsts.now c.loop-i.i (ranks c.loop-i.greatest.items) (omega arith)
    (length-map c.args.standings.now standing_rank ∙ c.requires.rows) c.requires.firsts c.loop-i.invariant
