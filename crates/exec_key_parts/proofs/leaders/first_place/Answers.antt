use Rattle.std.proofs.Common.{◌<◌, length, get_or, arith, ap, ◌∙◌}
use Rattle.std.proofs.lemmas.List.{get_or_default}
use Rattle.exec_key_parts.proofs.PartSteps.{first_new, known_within}
use Rattle.exec_key_parts.proofs.leaders.first_place.Goals as goal

pub returns-then-is_new-clause-first : goal.returns-then-is_new-clause-first
returns-then-is_new-clause-first g c =
    first_new g.K.PartialEq.eq c.requires.identity c.args.seen.now c.put.new.self c.args.firsts.now.items c.push.new.self.items c.args.key c.args.place c.in_ok-number.is_new
    c.requires.beside c.in_ok-number.ensures.keys c.in_ok-number.ensures.is_new c.if-is_new.true c.in_ok-push.ensures.items

pub index-requires : goal.index-requires
index-requires g c =
    let within = known_within g.K.PartialEq.eq c.requires.identity c.args.seen.now c.put.new.self c.args.key c.in_ok-number.number c.in_ok-number.is_new
    c.in_ok-number.ensures.keys c.in_ok-number.ensures.is_new c.if-is_new.false c.in_ok-number.ensures.there in
    let beside = c.requires.beside in omega (arith, within, beside)

pub returns-clause-first : goal.returns-clause-first
returns-clause-first g c =
    let within = known_within g.K.PartialEq.eq c.requires.identity c.args.seen.now c.put.new.self c.args.key c.in_ok-number.number c.in_ok-number.is_new
    c.in_ok-number.ensures.keys c.in_ok-number.ensures.is_new c.if-is_new.false c.in_ok-number.ensures.there in
    let beside = c.requires.beside in
    let l : c.in_ok-number.number < length c.args.firsts.now.items = omega (arith, within, beside) in
    c.index.ensures ∙ get_or_default c.args.firsts.now.items c.in_ok-number.number c.index.result.now 0 l ∙ ap (λ n. get_or c.args.firsts.now.items n 0) c.in_ok-number.ensures.place
