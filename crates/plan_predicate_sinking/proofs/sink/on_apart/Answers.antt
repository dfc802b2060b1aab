use Rattle.std.proofs.Common.{◌≡◌, ◌+◌, rules, subst}
use Rattle.plan_algebra.specs.Trees.{width_of}
use Rattle.plan_predicate_sinking.specs.Own.{own_side}
use Rattle.plan_predicate_sinking.specs.Sink.{IsOnSplit}
use Rattle.plan_predicate_sinking.proofs.OnParts.{on_parts}
use Rattle.plan_predicate_sinking.proofs.sink.on_apart.Goals as goal

pub returns : goal.returns
returns c =
    let q : c.in_ok-wide.wide ≡ c.in_ok-a.a + c.in_ok-x.x = search rules in
    subst (λ m. IsOnSplit c.args.n m (width_of c.args.right.now) (own_side c.args.closed)
    c.args.c.now c.in_ok-parts.parts.covered c.in_ok-parts.parts.rest) c.in_ok-a.ensures
    (subst (λ m. IsOnSplit c.args.n c.in_ok-a.a m (own_side c.args.closed) c.args.c.now
    c.in_ok-parts.parts.covered c.in_ok-parts.parts.rest) c.in_ok-x.ensures
    (on_parts c.args.closed c.args.n c.in_ok-a.a c.in_ok-x.x c.in_ok-wide.wide c.args.c.now _ _ _
    c.in_ok-parts.parts.covered c.in_ok-parts.parts.rest c.new-es.ensures q c.in_ok-put_at.ensures
    c.as_slice.ensures c.in_ok-parts.ensures))
