use Rattle.std.proofs.Common.{◌≡◌, ◌++◌}
use Rattle.app_sample_data.specs.Lines.{lines, partsupp_lines}
use Rattle.app_sample_data.proofs.partsupp.partsupp_text.Given as goal

abbrev pub invariant-loop-key : goal.invariant-loop-key
invariant-loop-key l = l.text.items ++ lines (partsupp_lines l.number) l.key l.key-end ≡ lines (partsupp_lines l.number) 1 l.key-end
