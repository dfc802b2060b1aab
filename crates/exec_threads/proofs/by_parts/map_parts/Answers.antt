use Rattle.std.proofs.Common.{◌≡◌, ◌+◌, ◌<◌, ◌*◌, ◌-◌, length, slice_index_or, refl, subst, ◌∙◌, arith}
use Rattle.std.specs.Fork.{AcceptsChunks, GivesChunk}
use Rattle.rayon.proofs.ToStd.{nat_range-All}
use Rattle.exec_threads.proofs.Chunked.{range-long, range-at}
use Rattle.exec_threads.proofs.by_parts.map_parts.Goals as goal

pub collect-requires-clause-ready : goal.collect-requires-clause-ready
collect-requires-clause-ready g c κs within =
    let ends = c.into_par_iter.ensures in
    let size = c.args.size in
    let xs = c.args.s.now in
    let count = c.count_of_parts-count.result in
    let inside = nat_range-All (λ n. (0 < size) × (n * size < length xs) × AcceptsChunks g.F.Fn c.args.f.now size xs) 0 count
    (λ n low high. (c.requires.size, c.count_of_parts-count.ensures.inside n high, c.requires.accepts)) in
    rw (c.map.ensures.base, c.map.ensures.f, c.with_min_len.ensures.base, ends.0, ends.1) (λ k d lt. (inside k d lt, λ y p. tt))

pub returns-clause-len : goal.returns-clause-len
returns-clause-len g c =
    let ends = c.into_par_iter.ensures in
    let h = c.in_ok-made.ensures in
    let chain = rw (c.map.ensures.base, c.map.ensures.f, c.with_min_len.ensures.base, ends.0, ends.1) at h.1 in
    let made = c.in_ok-made.made.items in
    let all = rw (chain.1, ← h.2) at chain.2 in
    let whole : c.count_of_parts-count.result - 0 ≡ c.count_of_parts-count.result = omega arith in
    range-long _ 0 _ made all ∙ whole ∙ c.count_of_parts-count.ensures.is

pub returns-clause-each : goal.returns-clause-each
returns-clause-each g c = λ n d lt.
    let ends = c.into_par_iter.ensures in
    let h = c.in_ok-made.ensures in
    let chain = rw (c.map.ensures.base, c.map.ensures.f, c.with_min_len.ensures.base, ends.0, ends.1) at h.1 in
    let made = c.in_ok-made.made.items in
    let all = rw (chain.1, ← h.2) at chain.2 in
    (refl, subst (λ k. GivesChunk g.F.Fn c.args.f.now c.args.size c.args.s.now k (slice_index_or made n d)) {x = 0 + n} (omega arith) (range-at _ 0 _ made all n d lt))
