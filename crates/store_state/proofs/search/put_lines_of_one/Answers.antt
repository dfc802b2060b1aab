use Rattle.std.proofs.Common.{◌≡◌, [], ◌∷◌, ◌<◌, length, slice_index_or, subst, sym, ap, ◌∙◌, arith, refl, w64, to_z, of_z}
use Rattle.std.specs.Prelude.{◌<ℤ◌, ◌≤ℤ◌}
use Rattle.std.proofs.lemmas.Int.{ints}
use Rattle.store_state.specs.Found.{AddsLines}
use Rattle.store_state.specs.Keys.{line_keys, order_key}
use Rattle.store_state.specs.Parts.{left_rows}
use Rattle.store_state.proofs.Searches.{lines_outside, lines_past, lines_through, until_first, until_more}
use Rattle.store_state.proofs.search.put_lines_of_one.Goals as goal

pub returns-then-not-has : goal.returns-then-not-has
returns-then-not-has c =
    let rows = c.args.segment.now in
    let deleted = c.args.deleted.now in
    let key = to_z w64 (of_z w64 c.args.key) in
    let same : key ≡ c.args.key = omega (arith, ints) in
    let range = c.args.range in
    subst (λ k. AddsLines (k ∷ []) (line_keys (left_rows deleted rows)) c.args.lines.now.items c.args.lines.now.items) same
    (lines_outside key deleted rows c.args.lines.now.items range.least range.greatest c.requires.between (sym c.has.ensures ∙ c.if-not-has.true))

pub loop-i-init : goal.loop-i-init
loop-i-init c =
    let rows = c.args.segment.now in
    let deleted = c.args.deleted.now in
    let key = to_z w64 (of_z w64 c.args.key) in
    let same : key ≡ c.args.key = omega (arith, ints) in
    let first = c.first_at_least-i in (
      first.ensures.within,
      until_first key deleted rows c.args.lines.now.items first.result first.ensures.within
          (λ i less. let l = first.ensures.less i less in omega (arith, ints, same, l)),
      λ p from within. let l = first.ensures.rest p from within in omega (arith, ints, same, l),
    )

pub returns-then-number_at-key : goal.returns-then-number_at-key
returns-then-number_at-key c =
    let rows = c.args.segment.now in
    let deleted = c.args.deleted.now in
    let key = to_z w64 (of_z w64 c.args.key) in
    let same : key ≡ c.args.key = omega (arith, ints) in
    let i = c.loop-i.i in
    let inv = c.loop-i.invariant in
    let less : i < length rows = omega arith in
    let least : key ≤ℤ order_key (slice_index_or rows i []) = inv.2 i (omega arith) less in
    let above : key <ℤ order_key (slice_index_or rows i []) = omega (arith, ints, same, least, c.number_at.ensures, c.if-number_at-key.true) in
    subst (λ k. AddsLines (k ∷ []) (line_keys (left_rows deleted rows)) c.args.lines.now.items c.loop-i.lines.items) same
    (lines_past key deleted rows c.args.lines.now.items c.loop-i.lines.items i less (c.requires.ascend refl) above inv.1)

pub loop-i-preserved : goal.loop-i-preserved
loop-i-preserved c =
    let rows = c.args.segment.now in
    let deleted = c.args.deleted.now in
    let key = to_z w64 (of_z w64 c.args.key) in
    let same : key ≡ c.args.key = omega (arith, ints) in
    let i = c.loop-i.i in
    let inv = c.loop-i.invariant in
    let less : i < length rows = omega arith in
    let found : to_z w64 (of_z w64 c.number_at.result) ≡ c.number_at.result = omega (arith, ints) in (
      omega (arith, less),
      until_more key deleted rows c.args.lines.now.items c.loop-i.lines.items c.put_line_key.new.keys.items i less
          (sym c.number_at.ensures ∙ sym found ∙ ap (to_z w64) c.if-number_at-key.false) c.in_ok-put_line_key.ensures inv.1,
      λ p from within. inv.2 p (omega (arith, from)) within,
    )

pub returns : goal.returns
returns c =
    let rows = c.args.segment.now in
    let deleted = c.args.deleted.now in
    let key = to_z w64 (of_z w64 c.args.key) in
    let same : key ≡ c.args.key = omega (arith, ints) in
    let i = c.loop-i.i in
    let inv = c.loop-i.invariant in
    let end : i ≡ length rows = omega (arith, inv.0) in
    subst (λ k. AddsLines (k ∷ []) (line_keys (left_rows deleted rows)) c.args.lines.now.items c.loop-i.lines.items) same
    (lines_through key deleted rows c.args.lines.now.items c.loop-i.lines.items i end inv.1)
