use Rattle.std.proofs.Common.{sym, subst}
use Rattle.std.specs.Prelude.{IfSome}
use Rattle.expr_scalar.specs.declared.expr.Expr.TheVariants as e
use Rattle.expr_conditions.specs.Ranks.{IsBelow}
use Rattle.plan_join_order.proofs.OfOrs.{or_put}
use Rattle.plan_join_order.proofs.implied.put_implied.Goals as goal

pub returns-in_ok-push-in-Some : goal.returns-in_ok-push-in-Some
returns-in_ok-push-in-Some c =
    or_put c.args.e.now c.into_inner.result c.in-Any.parts _ c.args.to.now _ c.in-Any.is
    c.as_slice.ensures
    (subst (λ y. IsBelow y (e.Any c.as_slice.result.now)) (sym c.into_inner.ensures)
    (subst (λ o. IfSome o (λ new. IsBelow new (e.Any c.as_slice.result.now))) c.in-Some.is
    c.in_ok-new-in-Any.ensures))
    c.in_ok-push-in-Some.ensures.ok
