use Rattle.std.proofs.Common.{◌<◌, subst, sym}
use Rattle.plan_join_order.proofs.Narrowing.{listed_same}
use Rattle.plan_join_order.proofs.regroup.listed.Goals as goal

pub built-requires : goal.built-requires
built-requires c = subst (λ m. 0 < m) (sym c.in_ok-new.ensures.count) c.requires

pub returns : goal.returns
returns c = λ a k.
    listed_same c.args.n a c.in_ok-new-2.new c.args.parts.inputs c.in_ok-new.new.parts.inputs
    c.args.parts.conditions c.args.es.now c.in_ok-output.output c.in_ok-new.new.parts.conditions
    c.in_ok-new.new.output
    k c.in_ok-output.ensures c.in_ok-new.ensures c.in_ok-new-2.ensures
