use Rattle.std.proofs.Common.{◌≡◌, ◌≤◌, ◌<◌, ◌∙◌, sym, length, subst, arith, w64, to_z, of_z}
use Rattle.std.proofs.lemmas.Int.{ints}
use Rattle.std.proofs.lemmas.List.{take_all}
use Rattle.store_state.specs.Parts.{Ascend, AreBetween}
use Rattle.store_state.proofs.KeyRanges.{range_more}
use Rattle.store_state.proofs.Searches.{ascend_more}
use Rattle.store_state.proofs.key_range.KeyRange.of.Goals as goal

pub loop-i-preserved : goal.loop-i-preserved
loop-i-preserved c =
    let inv = c.loop-i.invariant in
    let old = c.loop-i.range in
    let found = to_z w64 (of_z w64 c.number_at.result) in
    let key : found ≡ c.number_at.result = omega (arith, ints) in
    let less : c.loop-i.i < length c.args.segment.now = omega arith in (
      rw (c.with-range.ensures.least, c.with-range.ensures.greatest)
          (range_more old.least old.greatest found c.args.segment.now c.loop-i.i less (key ∙ c.number_at.ensures) inv.0),
      λ up. ascend_more old.least old.greatest found old.ascends c.args.segment.now c.loop-i.i less (key ∙ c.number_at.ensures) inv.0 inv.1
          (sym c.with-range.ensures.ascends ∙ up),
    )

pub returns-clause-between : goal.returns-clause-between
returns-clause-between c =
    let all : length c.args.segment.now ≤ c.loop-i.i = omega arith in
    subst (AreBetween c.loop-i.range.least c.loop-i.range.greatest) (take_all c.loop-i.i c.args.segment.now all) c.loop-i.invariant.0

pub returns-clause-ascend : goal.returns-clause-ascend
returns-clause-ascend c =
    let all : c.loop-i.i ≡ length c.args.segment.now = omega arith in
    λ up. subst (λ n. Ascend n c.args.segment.now) all (c.loop-i.invariant.1 up)
