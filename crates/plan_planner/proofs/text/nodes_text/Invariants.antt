use Rattle.std.proofs.Common.{◌≡◌, ◌++◌, take}
use Rattle.plan_planner.specs.PlanText.{head_line, node_lines}
use Rattle.plan_planner.proofs.text.nodes_text.Given as goal

abbrev pub invariant-loop-number : goal.invariant-loop-number
invariant-loop-number l = l.text.items ≡ head_line l.nodes ++ node_lines 0 (take l.number l.nodes)
