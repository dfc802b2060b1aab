use Rattle.std.proofs.Common.{sym, subst}
use Rattle.expr_conditions.specs.Ranks.{AreRenamed}
use Rattle.expr_conditions.proofs.Ranks.{renamed_none, renamed_more}
use Rattle.expr_conditions.proofs.conjuncts.renamed_all.Goals as goal

pub loop-e-init : goal.loop-e-init
loop-e-init c = subst (λ l. AreRenamed c.args.places.now _ l) (sym c.new-all.ensures) (renamed_none c.args.places.now)

pub loop-e-preserved : goal.loop-e-preserved
loop-e-preserved c =
    renamed_more c.args.places.now c.args.es.now c.loop-e.all _ c.loop-e.e-index c.e-item.result c.in_ok-new.new c.loop-e-test.true c.e-item.is c.loop-e.invariant c.in_ok-new.ensures.meaning c.in_ok-push.ensures.ok
