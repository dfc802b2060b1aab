use Rattle.std.proofs.Common.{take}
use Rattle.plan_unnested_nodes.specs.OwnRows.{AreAskedOfAll}
use Rattle.plan_unnested_nodes.proofs.own_rows.asked_of_all.Given as goal

abbrev pub invariant-loop-e : goal.invariant-loop-e
invariant-loop-e l = AreAskedOfAll l.kinds l.own (take l.e-index l.es) l.asked
