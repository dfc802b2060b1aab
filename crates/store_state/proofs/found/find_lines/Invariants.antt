use Rattle.std.proofs.Common.{List, ℤ, ◌++◌, take}
use Rattle.store_state.specs.Found.{TellsLines}
use Rattle.store_state.proofs.found.find_lines.Given as goal

abbrev pub invariant-loop-line : goal.invariant-loop-line
invariant-loop-line l = (before : List (ℤ × ℤ)) → TellsLines l.wanted before l.initial.found → TellsLines l.wanted (before ++ take l.line-index l.lines) l.found
