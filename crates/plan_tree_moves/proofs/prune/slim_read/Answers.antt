use Rattle.std.proofs.Common.{◌<◌, subst}
use Rattle.std.specs.List.{All}
use Rattle.plan_tree_moves.proofs.prune.slim_read.Goals as goal

pub slim_to-requires : goal.slim_to-requires
slim_to-requires c = subst (λ m. All (λ k. k < m) c.in_ok-own.own.items) c.in_ok-count.ensures
    c.in_ok-own.ensures
