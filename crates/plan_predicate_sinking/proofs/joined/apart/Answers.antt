use Rattle.std.proofs.Common.{sym, subst}
use Rattle.plan_predicate_sinking.specs.Own.{IsApart}
use Rattle.plan_predicate_sinking.proofs.Apart.{apart_none, apart_more}
use Rattle.plan_predicate_sinking.proofs.joined.apart.Goals as goal

pub loop-e-init : goal.loop-e-init
loop-e-init c =
    subst (λ l. IsApart c.args.closed c.args.n c.args.a c.args.x _ l c.new-rest.result)
    (sym c.new-covered.ensures)
    (subst (λ l. IsApart c.args.closed c.args.n c.args.a c.args.x _ _ l) (sym c.new-rest.ensures)
    (apart_none c.args.closed c.args.n c.args.a c.args.x))

pub loop-e-preserved : goal.loop-e-preserved
loop-e-preserved c =
    apart_more c.args.closed c.args.n c.args.a c.args.x c.args.es.now c.loop-e.parts.covered _
    c.loop-e.parts.rest _ c.loop-e.e-index c.e-item.result c.loop-e-test.true c.e-item.is
    c.loop-e.invariant c.in_ok-put_apart.ensures
