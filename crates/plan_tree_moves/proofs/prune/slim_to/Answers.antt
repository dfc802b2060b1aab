use Rattle.std.proofs.Common.{subst}
use Rattle.plan_predicate_sinking.specs.Narrow.{IsNarrowed}
use Rattle.plan_tree_moves.proofs.Pruning.{keeps_of}
use Rattle.plan_tree_moves.proofs.prune.slim_to.Goals as goal

pub returns : goal.returns
returns c = λ t s.
    keeps_of c.args.n t c.args.tree.now c.in_ok-tree.tree c.args.own.items
    (subst (λ l. IsNarrowed c.args.n c.args.tree.now l c.in_ok-tree.tree) c.deref.ensures.value
    c.in_ok-tree.ensures) c.requires s
