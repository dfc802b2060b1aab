use Rattle.std.proofs.Common.{rules}
use Rattle.app_show_plan.proofs.lines.push_flat_plan.Goals as goal

pub returns : goal.returns
returns c = (
  c.in_ok-lines.lines.items,
  c.in_ok-lines.ensures,
  search rules,
)
