use Rattle.std.proofs.Common.{◌∙◌, subst}
use Rattle.plan_algebra.specs.declared.tree.DepTree.{DepTree}
use Rattle.plan_predicate_sinking.specs.Arranged.{SameRows}
use Rattle.plan_predicate_sinking.proofs.Sinking.{trans}
use Rattle.plan_planner.proofs.FromQueries.{planned}
use Rattle.plan_planner.proofs.planning.plan_bound.Goals as goal

pub returns : goal.returns
returns c =
    planned c.in_ok-tree.ensures c.get.ensures
    (trans 0 c.get.result.now c.in_ok-arranged.arranged c.in_ok-indexed.indexed
    c.in_ok-arranged.ensures
    (subst (λ (t : DepTree). SameRows 0 t c.in_ok-indexed.indexed) c.get-2.ensures
    c.in_ok-indexed.ensures))
    c.get-3.ensures
    c.new-builder.ensures c.one-domain.ensures.rows c.in_ok-lower.ensures.whole
    c.in_ok-lower.ensures.grows c.in_ok-lower.ensures.scans c.finish-plan.ensures.nodes
    c.finish-plan.ensures.order (c.finish-plan.ensures.limit ∙ c.wide-most.ensures)
