use Rattle.std.proofs.Common.{take}
use Rattle.app_plan_text.specs.Lines.{AreLinesFrom}
use Rattle.app_plan_text.proofs.plan.plan_lines.Given as goal

abbrev pub invariant-loop-number : goal.invariant-loop-number
invariant-loop-number l = AreLinesFrom 0 (take l.number l.nodes) l.lines.items
