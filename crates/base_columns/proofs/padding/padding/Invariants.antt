use Rattle.std.proofs.Common.{◌≡◌, length}
use Rattle.base_columns.specs.Shown.{shown}
use Rattle.base_columns.proofs.padding.padding.Given as goal

abbrev pub invariant-loop-i : goal.invariant-loop-i
invariant-loop-i l = length (shown l.padding) ≡ l._i
