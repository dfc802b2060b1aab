use Rattle.std.proofs.Common.{◌≡◌, ◌≤◌, length, take}
use Rattle.plan_algebra.specs.Plans.{plan_scans}
use Rattle.plan_planner.proofs.text.scans.Given as goal

abbrev pub invariant-loop-node : goal.invariant-loop-node
invariant-loop-node l = (l.count ≡ length (plan_scans (take l.node-index l.nodes)))
    × (l.count ≤ l.node-index)
