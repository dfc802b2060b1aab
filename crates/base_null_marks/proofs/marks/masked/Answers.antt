use Rattle.std.proofs.Common.{◌∙◌, arith}
use Rattle.base_null_marks.proofs.MarkLaws.{is-marked}
use Rattle.base_null_marks.proofs.Masks.{masked_here, masked_later}
use Rattle.base_null_marks.proofs.marks.masked.Goals as goal

pub loop-w-preserved : goal.loop-w-preserved
loop-w-preserved g c =
    let words = c.marks.inside.words.items in
    let ms = c.args.marks.now in
    let orig = c.args.items.items in
    let cur = c.loop-w.items.items in
    let new = c.mask_word.new.items.items in
    let read = rw c.as_slice.ensures.value at c.word-word.ensures in (
      c.mask_word.ensures.long ∙ c.loop-w.invariant.0,
      masked_here words ms c.loop-w.w c.word-word.result orig cur new c.args.other c.marks.view_is read c.word-word.type_inv c.mask_word.ensures.each c.loop-w.invariant.1 c.loop-w.invariant.2,
      masked_later words ms c.loop-w.w c.word-word.result orig cur new c.args.other c.marks.view_is read c.word-word.type_inv c.mask_word.ensures.each c.loop-w.invariant.2,
    )

pub returns : goal.returns
returns g c =
    is-marked c.args.other c.args.marks.now c.args.items.items c.loop-w.items.items c.loop-w.invariant.0
    (λ k l. c.loop-w.invariant.1 k (omega (arith, l, c.loop-w-test.false, c.len.ensures, c.args.items.ok.0)))
