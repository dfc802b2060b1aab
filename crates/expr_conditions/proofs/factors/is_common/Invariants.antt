use Rattle.std.proofs.Common.{take}
use Rattle.expr_conditions.specs.Ranks.{IsBelowAny}
use Rattle.expr_conditions.proofs.factors.is_common.Given as goal

abbrev pub invariant-loop-part : goal.invariant-loop-part
invariant-loop-part l = IsBelowAny l.e (take l.part-index l.parts)
