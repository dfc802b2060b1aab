use Rattle.std.proofs.Common.{◌≡◌, length}
use Rattle.sql_binder_steps.specs.Kinds.{common_from}
use Rattle.sql_binder_steps.proofs.kinds.common_from.Given as goal

abbrev pub invariant-all : goal.invariant-all
invariant-all l = common_from l.fn.first l.all ≡ common_from l.kind l.left

abbrev pub decreases-all : goal.decreases-all
decreases-all l = length l.left
