use Rattle.std.proofs.Common.{[], subst, sym}
use Rattle.plan_dependent_nodes.specs.Supplied.{QueryIsSupplied}
use Rattle.plan_dependent_tree.proofs.SuppliedClauses.{whole_supplied}
use Rattle.plan_dependent_tree.proofs.query.depend.Goals as goal

pub depend_under-requires : goal.depend_under-requires
depend_under-requires c =
    subst (λ z. QueryIsSupplied z []) (sym c.get.ensures)
    (whole_supplied c.args.query.now.block [] c.requires.0 c.requires.1)
