use Rattle.std.proofs.Common.{◌≡◌, length, take, arith, ap, refl, ◌∙◌}
use Rattle.std.proofs.lemmas.List.{length-take-le, take_all}
use Rattle.std.proofs.lemmas.Option.{slice_get_read}
use Rattle.base_key_tables.specs.Distinct.{first_places}
use Rattle.base_key_tables.proofs.NumberSteps.{number_more, number_small}
use Rattle.base_key_tables.proofs.numbering.numbers.Goals as goal

pub overflow_cast-number : goal.overflow_cast-number
overflow_cast-number g c =
    let keys = c.args.keys.now in
    let here = slice_get_read keys (length keys) c.loop-row.row c.index-keys-row.result refl (omega arith) c.index-keys-row.is in
    let long : length (take c.loop-row.row keys) ≡ c.loop-row.row = length-take-le c.loop-row.row keys (omega arith) in
    let small = number_small g.K.PartialEq.eq c.requires.identity keys c.loop-row.row c.in_ok-number.number c.index-keys-row.result c.loop-row.seen c.put.new.self
    c.loop-row.invariant.0 c.in_ok-number.ensures.keys c.in_ok-number.ensures.there long in
    omega (arith, small)

pub loop-row-preserved : goal.loop-row-preserved
loop-row-preserved g c =
    let keys = c.args.keys.now in
    let here = slice_get_read keys (length keys) c.loop-row.row c.index-keys-row.result refl (omega arith) c.index-keys-row.is in
    let long : length (take c.loop-row.row keys) ≡ c.loop-row.row = length-take-le c.loop-row.row keys (omega arith) in
    number_more g.K.PartialEq.eq c.requires.identity keys c.loop-row.row c.index-keys-row.result c.loop-row.seen c.put.new.self
    c.loop-row.numbers.items c.push.new.self.items c.loop-row.firsts.items c.note_first.new.firsts.items c.in_ok-number.number c.in_ok-number.is_new
    here c.loop-row.invariant c.in_ok-number.ensures.keys c.in_ok-number.ensures.there c.in_ok-number.ensures.is_new c.in_ok-push.ensures.items c.in_ok-note_first.ensures long

pub returns-clause-firsts : goal.returns-clause-firsts
returns-clause-firsts g c =
    c.loop-row.invariant.2 ∙ ap (first_places g.K.PartialEq.eq) (take_all c.loop-row.row c.args.keys.now (omega arith))
