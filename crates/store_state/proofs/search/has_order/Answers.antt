use Rattle.std.proofs.Common.{◌≡◌, false, [], ◌<◌, length, slice_index_or, subst, sym, ap, ◌∙◌, arith, refl, w64, to_z, of_z}
use Rattle.std.specs.Prelude.{◌<ℤ◌, ◌≤ℤ◌}
use Rattle.std.proofs.lemmas.Int.{ints}
use Rattle.store_state.specs.Keys.{has_key, order_key, order_keys}
use Rattle.store_state.specs.Parts.{left_rows}
use Rattle.store_state.proofs.Searches.{order_below, order_gone, order_here, order_nowhere, order_outside, order_past}
use Rattle.store_state.proofs.search.has_order.Goals as goal

pub returns-then-not-has : goal.returns-then-not-has
returns-then-not-has c =
    let rows = c.args.segment.now in
    let deleted = c.args.deleted.now in
    let key = to_z w64 (of_z w64 c.args.key) in
    let same : key ≡ c.args.key = omega (arith, ints) in
    let range = c.args.range in
    subst (λ k. false ≡ has_key (order_keys (left_rows deleted rows)) k) same
    (order_outside key deleted rows range.least range.greatest c.requires.between (sym c.has.ensures ∙ c.if-not-has.true))

pub loop-i-init : goal.loop-i-init
loop-i-init c =
    let rows = c.args.segment.now in
    let deleted = c.args.deleted.now in
    let key = to_z w64 (of_z w64 c.args.key) in
    let same : key ≡ c.args.key = omega (arith, ints) in
    let first = c.first_at_least-i in (
      first.ensures.within,
      order_below key deleted rows first.result first.ensures.within (λ i less. let l = first.ensures.less i less in omega (arith, ints, same, l)),
      λ p from within. let l = first.ensures.rest p from within in omega (arith, ints, same, l),
    )

pub returns-then-number_at-key : goal.returns-then-number_at-key
returns-then-number_at-key c =
    let rows = c.args.segment.now in
    let deleted = c.args.deleted.now in
    let key = to_z w64 (of_z w64 c.args.key) in
    let same : key ≡ c.args.key = omega (arith, ints) in
    let i = c.loop-i.i in
    let inv = c.loop-i.invariant in
    let less : i < length rows = omega arith in
    let least : key ≤ℤ order_key (slice_index_or rows i []) = inv.2 i (omega arith) less in
    let above : key <ℤ order_key (slice_index_or rows i []) = omega (arith, ints, same, least, c.number_at.ensures, c.if-number_at-key.true) in
    subst (λ k. false ≡ has_key (order_keys (left_rows deleted rows)) k) same
    (order_past key deleted rows i less (c.requires.ascend refl) above inv.1)

pub returns-then-not-has_place : goal.returns-then-not-has_place
returns-then-not-has_place c =
    let rows = c.args.segment.now in
    let deleted = c.args.deleted.now in
    let key = to_z w64 (of_z w64 c.args.key) in
    let same : key ≡ c.args.key = omega (arith, ints) in
    let i = c.loop-i.i in
    let less : i < length rows = omega arith in
    let found : to_z w64 (of_z w64 c.number_at.result) ≡ c.number_at.result = omega (arith, ints) in
    order_here c.args.key deleted rows i less (sym c.has_place.ensures ∙ c.if-not-has_place.true)
    (sym c.number_at.ensures ∙ sym found ∙ ap (to_z w64) c.if-number_at-key.false ∙ same)

pub loop-i-preserved : goal.loop-i-preserved
loop-i-preserved c =
    let rows = c.args.segment.now in
    let deleted = c.args.deleted.now in
    let key = to_z w64 (of_z w64 c.args.key) in
    let same : key ≡ c.args.key = omega (arith, ints) in
    let i = c.loop-i.i in
    let inv = c.loop-i.invariant in
    let less : i < length rows = omega arith in (
      omega (arith, less),
      order_gone key deleted rows i less (sym c.has_place.ensures ∙ c.if-not-has_place.false) inv.1,
      λ p from within. inv.2 p (omega (arith, from)) within,
    )

pub returns : goal.returns
returns c =
    let rows = c.args.segment.now in
    let deleted = c.args.deleted.now in
    let key = to_z w64 (of_z w64 c.args.key) in
    let same : key ≡ c.args.key = omega (arith, ints) in
    let i = c.loop-i.i in
    let inv = c.loop-i.invariant in
    let end : i ≡ length rows = omega (arith, inv.0) in
    subst (λ k. false ≡ has_key (order_keys (left_rows deleted rows)) k) same (order_nowhere key deleted rows i end inv.1)
