use Rattle.std.proofs.Common.{◌≡◌, ◌++◌}
use Rattle.app_sample_data.specs.Lines.{lines, part_line}
use Rattle.app_sample_data.proofs.part.part_text.Given as goal

abbrev pub invariant-loop-key : goal.invariant-loop-key
invariant-loop-key l = l.text.items ++ lines (part_line l.number) l.key l.key-end ≡ lines (part_line l.number) 1 l.key-end
