use Rattle.std.specs.Cmp.Lexicographic.{pointwise_decides}
use Rattle.base_value.proofs.Identity.{value_eq_decides}
use Rattle.base_value.proofs.row.Row.is_identical.Goals as goal

pub returns-clause-fact : goal.returns-clause-fact
returns-clause-fact c = rw c.eq.ensures (pointwise_decides value_eq_decides c.args.self.now c.args.other.now)
