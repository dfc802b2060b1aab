use Rattle.std.proofs.Common.{sym, subst}
use Rattle.expr_scalar.specs.Rename.{IsRenamed}
use Rattle.expr_conditions.specs.Ranks.{IsParted}
use Rattle.expr_conditions.proofs.Ranks.{parted_none, parted_more}
use Rattle.expr_conditions.proofs.conjuncts.in_parts.Goals as goal

pub loop-e-init : goal.loop-e-init
loop-e-init c =
    subst (λ l. IsParted c.args.places.now c.args.limit _ l c.new-rest.result) (sym c.new-covered.ensures)
    (subst (λ l. IsParted c.args.places.now c.args.limit _ _ l) (sym c.new-rest.ensures) (parted_none c.args.places.now c.args.limit))

pub loop-e-preserved : goal.loop-e-preserved
loop-e-preserved c =
    parted_more c.args.places.now c.args.limit c.args.es.now c.loop-e.parts.covered c.loop-e.parts.rest _ _ c.loop-e.e-index c.e-item.result c.in_ok-new-2.new c.loop-e-test.true c.e-item.is c.loop-e.invariant
    (subst (λ x. IsRenamed c.args.places.now c.e-item.result x) (sym c.in_ok-new-2.ensures) c.in_ok-new.ensures.meaning) c.in_ok-put_part.ensures
