use Rattle.std.proofs.Common.{subst, ◌∙◌}
use Rattle.plan_algebra.specs.Trees.{width_of}
use Rattle.expr_scalar.specs.declared.expr.Expr.{Expr}
use Rattle.plan_predicate_sinking.specs.Sink.{IsOnSplit}
use Rattle.plan_predicate_sinking.proofs.sink.inner_parts.Goals as goal

pub returns : goal.returns
returns c =
    subst (λ (y : Expr). IsOnSplit c.args.n (width_of c.args.left.now) (width_of c.args.right.now)
    c.args.side.now y c.in_ok-parts.parts.covered c.in_ok-parts.parts.rest)
    (c.get.ensures ∙ c.in_ok-all.ensures) c.in_ok-parts.ensures
