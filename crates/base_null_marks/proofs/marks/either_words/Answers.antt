use Rattle.std.proofs.Common.{arith}
use Rattle.base_null_marks.proofs.Words.{either_full, either_word}
use Rattle.base_null_marks.proofs.marks.either_words.Goals as goal

pub returns : goal.returns
returns c =
    let n = c.larger-n.result in
    either_word c.args.a.now c.args.b.now c.loop-k.words.items
    (either_full c.args.a.now c.args.b.now c.loop-k.words.items c.larger-n.result (omega (arith, c.loop-k.invariant.0, c.loop-k-test.false, c.loop-k.auto.k-end)) c.larger-n.ensures.first c.larger-n.ensures.second
    (λ k l. c.loop-k.invariant.1 k (omega (arith, l, c.loop-k-test.false))))
