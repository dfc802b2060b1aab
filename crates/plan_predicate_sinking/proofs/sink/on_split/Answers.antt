use Rattle.std.proofs.Common.{sym, subst}
use Rattle.plan_algebra.specs.Trees.{width_of}
use Rattle.plan_predicate_sinking.specs.Sink.{IsOnSplit}
use Rattle.plan_predicate_sinking.proofs.OnParts.{on_whole}
use Rattle.plan_predicate_sinking.proofs.sink.on_split.Goals as goal

pub returns-in_ok-parts-in-Closed : goal.returns-in_ok-parts-in-Closed
returns-in_ok-parts-in-Closed c =
    subst (λ s. IsOnSplit c.args.n (width_of c.args.left.now) (width_of c.args.right.now) s
    c.args.c.now c.in_ok-parts-in-Closed.parts.covered c.in_ok-parts-in-Closed.parts.rest)
    (sym c.in-Closed.is) c.in_ok-parts-in-Closed.ensures

pub returns-in_ok-parts-in-Shared : goal.returns-in_ok-parts-in-Shared
returns-in_ok-parts-in-Shared c =
    subst (λ s. IsOnSplit c.args.n (width_of c.args.left.now) (width_of c.args.right.now) s
    c.args.c.now c.in_ok-parts-in-Shared.parts.covered c.in_ok-parts-in-Shared.parts.rest)
    (sym c.in-Shared.is) c.in_ok-parts-in-Shared.ensures

pub returns-in_ok-parts-in-Dependent : goal.returns-in_ok-parts-in-Dependent
returns-in_ok-parts-in-Dependent c =
    on_whole c.args.n (width_of c.args.left.now) (width_of c.args.right.now) c.args.side.now
    c.args.c.now _ _ c.in_ok-parts-in-Dependent.ensures.covered
    c.in_ok-parts-in-Dependent.ensures.rest
