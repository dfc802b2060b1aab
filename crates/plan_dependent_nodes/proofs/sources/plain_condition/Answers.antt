use Rattle.std.proofs.Common.{subst, sym}
use Rattle.plan_dependent_nodes.specs.Supplied.{InputsAreSupplied}
use Rattle.plan_dependent_nodes.proofs.PlaceLists.{condition_seen}
use Rattle.plan_dependent_nodes.proofs.sources.plain_condition.Goals as goal

pub returns-in_ok-condition-in-Some-2 : goal.returns-in_ok-condition-in-Some-2
returns-in_ok-condition-in-Some-2 c =
    let s = c.args.sight.now in
    λ p.
    condition_seen s.outer.now s.start s.width c.as_slice.ensures
    (c.in_ok-places.ensures
    (subst (λ z. InputsAreSupplied z s.outer.now s.width) (sym c.as_slice.ensures) p))
    c.in-Some.is c.as_slice-in-Some.ensures c.get.ensures
    c.in_ok-condition-in-Some.ensures.meaning c.in_ok-condition-in-Some-2.ensures
