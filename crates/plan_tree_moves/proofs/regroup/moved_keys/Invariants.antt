use Rattle.std.proofs.Common.{take}
use Rattle.plan_tree_moves.specs.Regroup.{KeysMove}
use Rattle.plan_tree_moves.proofs.regroup.moved_keys.Given as goal

abbrev pub invariant-loop-column : goal.invariant-loop-column
invariant-loop-column l = KeysMove l.whole (take l.column-index l.by) l.keys
