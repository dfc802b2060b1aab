use Rattle.std.proofs.Common.{◌≡◌, ◌+◌, ◌<◌, length, take, map, set, get_or, [], arith, ap, subst, refl, sym, ◌∙◌}
use Rattle.std.proofs.lemmas.List.{length-map}
use Rattle.std.proofs.lemmas.Option.{slice_get_read}
use Rattle.base_row_laws.specs.Numbers.{place_in}
use Rattle.exec_key_parts.specs.KeyParts.{key_part}
use Rattle.exec_key_parts.proofs.PartSteps.{leader_next, taken_more, numbered_more, firsts_few, AreTaken}
use Rattle.exec_key_parts.proofs.in_parts.numbers_by_leaders.Goals as goal

pub next_leader-first-requires-clause-left : goal.next_leader-first-requires-clause-left
next_leader-first-requires-clause-left g c =
    let keys = c.args.keys.now in
    let lists = map (λ l. l.items) c.args.leaders.now in
    let long : length lists ≡ length c.args.leaders.now = length-map c.args.leaders.now (λ l. l.items) in
    let part_of = key_part g.K.Hash.hash_input (length c.args.leaders.now) in
    let i = c.loop-place.place in
    let x = c.index-keys-place.result in
    let here = slice_get_read keys (length keys) i x refl (omega arith) c.index-keys-place.is in
    let p : c.key_part-part.result ≡ part_of x = c.key_part-part.ensures.value in
    let w : c.key_part-part.result < length c.args.leaders.now = c.key_part-part.ensures.within in
    let within : part_of x < length lists = omega (arith, p, w, long) in
    let taken = c.loop-place.taken.items in
    let are = subst (λ n. AreTaken part_of n (take i keys) taken) (sym long) c.loop-place.invariant.taken in
    subst (λ q. get_or taken q 0 < length (get_or lists q [])) (sym p)
    (leader_next g.K.PartialEq.eq c.requires.identity part_of keys lists c.requires.leaders i x here within taken (get_or taken (part_of x) 0) are refl).0

pub put_number-requires-clause-few : goal.put_number-requires-clause-few
put_number-requires-clause-few g c =
    firsts_few g.K.PartialEq.eq c.requires.identity c.args.keys.now c.loop-place.place 4294967296 c.loop-place.firsts.items c.loop-place.invariant.firsts_are c.requires.small

pub loop-place-preserved : goal.loop-place-preserved
loop-place-preserved g c =
    let keys = c.args.keys.now in
    let lists = map (λ l. l.items) c.args.leaders.now in
    let long : length lists ≡ length c.args.leaders.now = length-map c.args.leaders.now (λ l. l.items) in
    let part_of = key_part g.K.Hash.hash_input (length c.args.leaders.now) in
    let i = c.loop-place.place in
    let x = c.index-keys-place.result in
    let here = slice_get_read keys (length keys) i x refl (omega arith) c.index-keys-place.is in
    let p : c.key_part-part.result ≡ part_of x = c.key_part-part.ensures.value in
    let w : c.key_part-part.result < length c.args.leaders.now = c.key_part-part.ensures.within in
    let within : part_of x < length lists = omega (arith, p, w, long) in
    let taken = c.loop-place.taken.items in
    let taken' = c.next_leader-first.new.taken.items in
    let are = subst (λ n. AreTaken part_of n (take i keys) taken) (sym long) c.loop-place.invariant.taken in
    let set_is : taken' ≡ set taken (part_of x) (get_or taken (part_of x) 0 + 1) =
    c.next_leader-first.ensures.taken ∙ ap (λ q. set taken q (get_or taken q 0 + 1)) p in
    let first : c.next_leader-first.result ≡ place_in g.K.PartialEq.eq keys x =
    c.next_leader-first.ensures.leader ∙ ap (λ q. get_or (get_or lists q []) (get_or taken q 0) 0) p
    ∙ (leader_next g.K.PartialEq.eq c.requires.identity part_of keys lists c.requires.leaders i x here within taken (get_or taken (part_of x) 0) are refl).1 in
    let more = taken_more g.K.PartialEq.eq c.requires.identity part_of keys lists c.requires.leaders i x here within taken taken' (c.loop-place.invariant.long ∙ sym long) are set_is in
    let numbered = numbered_more g.K.PartialEq.eq c.requires.identity part_of keys lists c.requires.leaders i x here within c.next_leader-first.result
    c.loop-place.numbers.items c.put_number.new.numbers.items c.loop-place.firsts.items c.put_number.new.firsts.items first c.loop-place.invariant.numbers_are c.loop-place.invariant.firsts_are
    c.in_ok-put_number.ensures.known c.in_ok-put_number.ensures.new in
    record {
      long = more.0 ∙ long;
      taken = subst (λ n. AreTaken part_of n (take (i + 1) keys) taken') long more.1;
      numbers_are = numbered.0;
      firsts_are = numbered.1;
    }
