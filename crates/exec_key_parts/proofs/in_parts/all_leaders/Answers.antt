use Rattle.std.proofs.Common.{◌≡◌, ◌-◌, ◌<◌, map, sym, ap, ◌∙◌, arith, length}
use Rattle.std.specs.Prelude.{IfOk}
use Rattle.std.proofs.lemmas.List.{length-map}
use Rattle.exec_threads.proofs.MadeParts.{items_have, numbered-long, numbered-at}
use Rattle.exec_key_parts.specs.KeyParts.{key_part, leaders_of_part}
use Rattle.exec_key_parts.proofs.in_parts.all_leaders.Goals as goal

pub collect-requires-clause-ready : goal.collect-requires-clause-ready
collect-requires-clause-ready g c κs within =
    let ends = c.into_par_iter.ensures in
    rw (c.map.ensures.base, c.map.ensures.f, c.with_min_len.ensures.base, ends.0, ends.1)
    (λ k d lt. ((c.requires.identity, (c.requires.small, c.requires.count)), λ y p. tt))

pub returns-clause-count : goal.returns-clause-count
returns-clause-count g c =
    let ends = c.into_par_iter.ensures in
    let h = c.in_ok-made.ensures in
    let chain = rw (c.map.ensures.base, c.map.ensures.f, c.with_min_len.ensures.base, ends.0, ends.1) at h.1 in
    let made = rw c.in_ok-leaders.was at h.2 in
    let all = rw (chain.1, made.1) at chain.2 in
    let whole : c.args.count - 0 ≡ c.args.count = omega arith in
    ap length made.2 ∙ numbered-long _ _ made.0 all ∙ whole

pub returns-clause-leaders : goal.returns-clause-leaders
returns-clause-leaders g c = λ part l.
    let ends = c.into_par_iter.ensures in
    let h = c.in_ok-made.ensures in
    let chain = rw (c.map.ensures.base, c.map.ensures.f, c.with_min_len.ensures.base, ends.0, ends.1) at h.1 in
    let made = rw c.in_ok-leaders.was at h.2 in
    let all = rw (chain.1, made.1, ← made.2) at chain.2 in
    let xs = c.in_ok-leaders.leaders.items in
    let ls : length (map (λ v. v.items) xs) ≡ length xs = length-map xs (λ v. v.items) in
    let same = g.K.PartialEq.eq in
    let part_of = key_part g.K.Hash.hash_input c.args.count in
    let keys = c.args.keys.now in
    let within : part < length xs = omega (arith, l, ls) in
    items_have (λ leaders. leaders ≡ leaders_of_part same part_of keys part) xs part within
    (λ d. numbered-at (λ n r. IfOk r (λ v. v.items ≡ leaders_of_part same part_of keys n)) _ xs all part d within)
