use Rattle.std.proofs.Common.{refl}
use Rattle.plan_predicate_sinking.proofs.SameNodes.{SameRows-refl}
use Rattle.plan_tree_moves.proofs.prune.slim_whole.Goals as goal

pub returns : goal.returns
returns c = c.in_ok-new.ensures c.args.tree.now
    (SameRows-refl c.args.n c.args.tree.now c.args.tree.now refl)
