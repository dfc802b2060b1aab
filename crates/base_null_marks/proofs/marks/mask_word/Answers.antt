use Rattle.std.proofs.Common.{◌≡◌, ◌<◌, ◌+◌, ◌^◌, ap, sym, ◌∙◌, cond, length, arith, get_or, false}
use Rattle.std.specs.Int.{trailing_zeros, w64}
use Rattle.std.proofs.lemmas.List.{length-set}
use Rattle.std.proofs.lemmas.Nat.Bits.{bit_at-trailing_zeros}
use Rattle.base_null_marks.specs.Marks.{in_word}
use Rattle.base_null_marks.proofs.Masks.{less_word, no_ones, mask_step, written, not_written}
use Rattle.base_null_marks.proofs.marks.mask_word.Goals.{then-place-len, else-place-len}
use Rattle.base_null_marks.proofs.marks.mask_word.Goals as goal

pub loop-rest-smaller : goal.loop-rest-smaller
loop-rest-smaller g c =
    let w = c.loop-rest.rest in
    let f : w < 2 ^ 64 = omega (arith, c.loop-rest.auto.rest-fits) in
    let p : 0 < w = omega (arith, c.loop-rest-test.true) in
    let low = bit_at-trailing_zeros w64 w p f in
    less_word w (trailing_zeros w64 w) low.0 low.1

pub loop-rest-preserved : goal.loop-rest-preserved
loop-rest-preserved g c =
    let w = c.loop-rest.rest in
    let t = trailing_zeros w64 w in
    let f : w < 2 ^ 64 = omega (arith, c.loop-rest.auto.rest-fits) in
    let p : 0 < w = omega (arith, c.loop-rest-test.true) in
    let low = bit_at-trailing_zeros w64 w p f in
    let xs = c.loop-rest.items.items in
    let ys = c.if-place-len.items.items in
    elim c.if-place-len.branch [
      | then-place-len b ↦ (
        ap (λ v. length v.items) b.items-is ∙ length-set xs (c.args.start + t) c.args.other ∙ c.loop-rest.invariant.0,
        λ k. mask_step w t c.args.start low.0 low.1 f xs ys c.args.other
            (λ j. ap (λ v. get_or v.items j c.args.other) b.items-is ∙ written xs c.args.other (c.args.start + t) (omega (arith, b.if-place-len.true, c.len.ensures, c.loop-rest.items.ok.0)) j) k
            ∙ c.loop-rest.invariant.1 k,
      )
      | else-place-len b ↦ (
        ap (λ v. length v.items) b.items-is ∙ c.loop-rest.invariant.0,
        λ k. mask_step w t c.args.start low.0 low.1 f xs ys c.args.other
            (λ j. ap (λ v. get_or v.items j c.args.other) b.items-is ∙ not_written xs c.args.other (c.args.start + t) (omega (arith, b.if-place-len.false, c.len.ensures, c.loop-rest.items.ok.0)) j) k
            ∙ c.loop-rest.invariant.1 k,
      )
    ]

pub returns-clause-each : goal.returns-clause-each
returns-clause-each g c k =
    let e : in_word c.loop-rest.rest c.args.start k ≡ false = ap (λ w. in_word w c.args.start k) c.loop-rest-test.false ∙ no_ones c.args.start k in
    sym (ap (λ b. cond b c.args.other (get_or c.loop-rest.items.items k c.args.other)) e) ∙ c.loop-rest.invariant.1 k
