use Rattle.std.proofs.Common.{◌≡◌, ◌-◌, ◌<◌, List, map, sym, ◌∙◌, arith, length, get_or}
use Rattle.std.specs.Prelude.{IfOk}
use Rattle.std.proofs.lemmas.List.{length-map, get_or-map, ext_get_or}
use Rattle.rayon.proofs.ToStd.{nat_range-All}
use Rattle.base_value.specs.declared.value.Value.{Value}
use Rattle.base_columns.specs.Lists.{AreBelow}
use Rattle.plan_algebra.specs.declared.aggregate.Aggregate.{Aggregate}
use Rattle.plan_algebra.specs.declared.aggregate.Aggregate.TheVariants.{CountRows}
use Rattle.exec_hash_group.specs.Grouping.{aggregate_column}
use Rattle.exec_threads.proofs.MadeParts.{numbered-long, numbered-at}
use Rattle.exec_hash_group.proofs.by_threads.aggregate_columns.Goals as goal

pub collect-requires-clause-ready : goal.collect-requires-clause-ready
collect-requires-clause-ready g c κs within =
    let ends = c.into_par_iter.ensures in
    let rows = c.args.rows.now.rows in
    let numbers = c.args.numbers.now in
    let aggregates = c.args.aggregates.now in
    let ready = nat_range-All (λ place. (length numbers ≡ length rows) × ((length numbers < 4294967296) × (AreBelow c.args.count numbers × (place < length aggregates)))) 0 (length aggregates)
    (λ place low high. (c.requires.rows, (c.requires.small, (c.requires.numbers, high)))) in
    rw (c.map.ensures.base, c.map.ensures.f, c.with_min_len.ensures.base, ends.0, ends.1) (λ k d lt. (ready k d lt, λ y p. tt))

pub returns : goal.returns
returns g c =
    let ends = c.into_par_iter.ensures in
    let h = c.in_ok-made.ensures in
    let chain = rw (c.map.ensures.base, c.map.ensures.f, c.with_min_len.ensures.base, ends.0, ends.1) at h.1 in
    let made = rw c.in_ok-columns.was at h.2 in
    let all = rw (chain.1, made.1, ← made.2) at chain.2 in
    let xs = c.in_ok-columns.columns.items in
    let aggregates = c.args.aggregates.now in
    let f : Aggregate → List Value = aggregate_column c.args.rows.now.rows c.args.numbers.now c.args.count in
    let whole : length aggregates - 0 ≡ length aggregates = omega arith in
    let long : length xs ≡ length aggregates = numbered-long _ _ xs all ∙ whole in
    let d : List Value = f CountRows in
    ext_get_or d xs (map f aggregates) (long ∙ sym (length-map aggregates f))
    (λ i l. numbered-at (λ n r. IfOk r (λ column. (a : Aggregate) → column ≡ f (get_or aggregates n a))) _ xs all i d l CountRows ∙ sym (get_or-map f aggregates i CountRows d (omega (arith, l, long))))
