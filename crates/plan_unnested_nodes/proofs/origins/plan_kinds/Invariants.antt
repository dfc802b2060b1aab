use Rattle.plan_unnested_nodes.specs.PlanKinds.{AreKindsOfFirst}
use Rattle.plan_unnested_nodes.proofs.origins.plan_kinds.Given as goal

abbrev pub invariant-loop-i : goal.invariant-loop-i
invariant-loop-i l = AreKindsOfFirst l.nodes l.i l.kinds.items
