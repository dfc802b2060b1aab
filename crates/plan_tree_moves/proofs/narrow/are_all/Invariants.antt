use Rattle.std.proofs.Common.{◌≡◌, take}
use Rattle.expr_conditions.specs.Ranks.{columns_from}
use Rattle.plan_tree_moves.proofs.narrow.are_all.Given as goal

abbrev pub invariant-loop-i : goal.invariant-loop-i
invariant-loop-i l = take l.i l.own ≡ columns_from 0 l.i
