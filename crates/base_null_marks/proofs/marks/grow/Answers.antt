use Rattle.std.proofs.Common.{◌∙◌, ◌+◌, length, ap}
use Rattle.std.proofs.lemmas.List.{length_push}
use Rattle.base_null_marks.specs.Marks.{is_marked}
use Rattle.base_null_marks.proofs.Words.{one_more}
use Rattle.base_null_marks.proofs.marks.grow.Goals as goal

pub loop-k-preserved : goal.loop-k-preserved
loop-k-preserved c = (
  ap length c.in_ok-push.ensures.items ∙ length_push c.loop-k.words.items 0 ∙ ap (λ n. n + 1) c.loop-k.invariant.0,
  λ i. ap (λ ws. is_marked ws i) c.in_ok-push.ensures.items ∙ one_more c.loop-k.words.items i ∙ c.loop-k.invariant.1 i,
)

pub returns-clause-same : goal.returns-clause-same
returns-clause-same c i =
    ap (λ ws. is_marked ws i) c.in_ok-push-2.ensures.items ∙ one_more c.loop-k.words.items i ∙ c.loop-k.invariant.1 i
