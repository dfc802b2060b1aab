use Rattle.std.proofs.Common.{take}
use Rattle.store_state.specs.Found.{AddsLines}
use Rattle.store_state.specs.Keys.{line_keys}
use Rattle.store_state.specs.Parts.{left_rows}
use Rattle.store_state.proofs.search.put_lines_of.Given as goal

abbrev pub invariant-loop-key : goal.invariant-loop-key
invariant-loop-key l = AddsLines (take l.key-index l.wanted) (line_keys (left_rows l.deleted l.segment)) l.initial.lines.items l.lines.items
