use Rattle.std.proofs.Common.{◌≡◌, take}
use Rattle.base_row_laws.specs.Matched.{numbered}
use Rattle.plan_unnested_nodes.proofs.lists.numbered_pairs.Given as goal

abbrev pub invariant-loop-i : goal.invariant-loop-i
invariant-loop-i l = l.pairs ≡ numbered (take l.i l.columns)
