use Rattle.std.proofs.Common.{take}
use Rattle.plan_unnested_nodes.specs.FromRows.{AreOwn}
use Rattle.plan_unnested_nodes.proofs.from_rows.own_list.Given as goal

abbrev pub invariant-loop-e : goal.invariant-loop-e
invariant-loop-e l = AreOwn l.n (take l.e-index l.es) l.own
