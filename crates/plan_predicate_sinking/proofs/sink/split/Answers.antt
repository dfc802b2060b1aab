use Rattle.std.proofs.Common.{sym, subst}
use Rattle.plan_predicate_sinking.specs.Sink.{IsSplit}
use Rattle.plan_predicate_sinking.proofs.Sinking.{split_none, split_more}
use Rattle.plan_predicate_sinking.proofs.sink.split.Goals as goal

pub loop-e-init : goal.loop-e-init
loop-e-init c =
    subst (λ l. IsSplit c.args.limit _ l c.new-rest.result) (sym c.new-covered.ensures)
    (subst (λ l. IsSplit c.args.limit _ _ l) (sym c.new-rest.ensures) (split_none c.args.limit))

pub loop-e-preserved : goal.loop-e-preserved
loop-e-preserved c =
    split_more c.args.limit c.args.es.now c.loop-e.parts.covered _ c.loop-e.parts.rest _
    c.loop-e.e-index c.e-item.result c.loop-e-test.true c.e-item.is c.loop-e.invariant
    c.in_ok-put_split.ensures
