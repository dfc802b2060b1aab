use Rattle.std.proofs.Common.{◌≡◌, ◌++◌, length, reverse}
use Rattle.app_sessions.proofs.expansion.reverse_statements.Given as goal

abbrev pub invariant-left : goal.invariant-left
invariant-left l = l.found ++ reverse l.left ≡ reverse l.fn.statements

abbrev pub decreases-left : goal.decreases-left
decreases-left l = length l.left
