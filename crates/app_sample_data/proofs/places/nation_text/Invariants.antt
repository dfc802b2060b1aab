use Rattle.std.proofs.Common.{◌≡◌, ◌++◌}
use Rattle.app_sample_data.specs.Lines.{lines, nation_line}
use Rattle.app_sample_data.proofs.places.nation_text.Given as goal

abbrev pub invariant-loop-key : goal.invariant-loop-key
invariant-loop-key l = l.text.items ++ lines nation_line l.key 25 ≡ lines nation_line 0 25
