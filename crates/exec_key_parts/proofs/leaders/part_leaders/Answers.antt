use Rattle.std.proofs.Common.{rules, ◌≡◌, true, length, arith, refl, sym, ◌∙◌}
use Rattle.std.specs.Prelude.{◌==◌}
use Rattle.std.proofs.lemmas.Option.{slice_get_read}
use Rattle.exec_key_parts.specs.KeyParts.{key_part}
use Rattle.exec_key_parts.proofs.PartSteps.{seen_more}
use Rattle.exec_key_parts.proofs.leaders.part_leaders.Goals as goal

pub loop-place-preserved : goal.loop-place-preserved
loop-place-preserved g c =
    let keys = c.args.keys.now in
    let part_of = key_part g.K.Hash.hash_input c.args.count in
    let x = c.index-keys-place.result in
    let here = slice_get_read keys (length keys) c.loop-place.place x refl (omega arith) c.index-keys-place.is in
    let own : part_of x ≡ c.args.part = sym c.key_part.ensures.value ∙ c.if-key_part-part.false in
    let test : (part_of x == c.args.part) ≡ true = search rules in
    seen_more g.K.PartialEq.eq c.requires.identity part_of c.args.part keys c.loop-place.place x here c.loop-place.seen c.first_place.new.seen c.loop-place.firsts.items c.first_place.new.firsts.items
    c.loop-place.leaders.items c.push.new.self.items c.in_ok-first.first test c.loop-place.invariant c.in_ok-first.ensures.seen c.in_ok-first.ensures.firsts c.in_ok-first.ensures.first c.in_ok-push.ensures.items
