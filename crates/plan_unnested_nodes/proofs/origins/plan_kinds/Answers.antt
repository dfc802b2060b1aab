use Rattle.std.proofs.Common.{sym, subst}
use Rattle.plan_unnested_nodes.specs.PlanKinds.{AreKindsOfFirst}
use Rattle.plan_unnested_nodes.proofs.Turns.{no_kinds}
use Rattle.plan_unnested_nodes.proofs.origins.plan_kinds.Goals as goal

pub loop-i-init : goal.loop-i-init
loop-i-init c = subst (AreKindsOfFirst c.args.nodes.now 0) (sym c.in_ok-kinds.ensures.items) (no_kinds c.args.nodes.now)
