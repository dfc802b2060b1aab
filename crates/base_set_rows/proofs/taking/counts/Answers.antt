use Rattle.std.proofs.Common.{◌<◌, ◌+◌, length, get_or, refl, arith, ap, ◌∙◌}
use Rattle.std.proofs.lemmas.List.{get_or_default}
use Rattle.base_set_rows.proofs.Steps.{count_fits, count_more}
use Rattle.base_set_rows.proofs.taking.counts.Goals as goal

pub overflow_add-index_mut : goal.overflow_add-index_mut
overflow_add-index_mut c =
    let li : c.loop-i.i < length c.args.numbers.now = c.loop-i-test.true in
    let k = get_or c.args.numbers.now c.loop-i.i 0 in
    let lk = c.requires.numbers c.loop-i.i 0 li in
    let f = count_fits c.args.numbers.now c.loop-i.counts.items c.loop-i.i k c.args.count c.requires.small lk c.loop-i.invariant li in
    let long = c.loop-i.invariant.long in
    let v = c.index_mut.ensures.value ∙ get_or_default c.loop-i.counts.items k c.index_mut.result.now 0 (omega (arith, lk, long)) in
    omega (arith, v, f)

pub loop-i-preserved : goal.loop-i-preserved
loop-i-preserved c =
    let li : c.loop-i.i < length c.args.numbers.now = omega arith in
    let k = get_or c.args.numbers.now c.loop-i.i 0 in
    let lk = c.requires.numbers c.loop-i.i 0 li in
    let long = c.loop-i.invariant.long in
    count_more c.args.numbers.now c.loop-i.counts.items _ c.loop-i.i k c.args.count _ li refl lk c.loop-i.invariant refl
    (ap (λ x. x + 1) (c.index_mut.ensures.value ∙ get_or_default c.loop-i.counts.items k c.index_mut.result.now 0 (omega (arith, lk, long))))
