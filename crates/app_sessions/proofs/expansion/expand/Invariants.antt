use Rattle.std.proofs.Common.{length}
use Rattle.app_sessions.proofs.Expanded.{Expanding}
use Rattle.app_sessions.proofs.expansion.expand.Given as goal

abbrev pub invariant-left : goal.invariant-left
invariant-left l = Expanding l.fn.statements l.left l.steps

abbrev pub decreases-left : goal.decreases-left
decreases-left l = length l.left
