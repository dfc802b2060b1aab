use Rattle.std.proofs.Common.{◌≡◌, ◌++◌}
use Rattle.app_sample_data.specs.Lines.{lines, region_line}
use Rattle.app_sample_data.proofs.places.region_text.Given as goal

abbrev pub invariant-loop-key : goal.invariant-loop-key
invariant-loop-key l = l.text.items ++ lines region_line l.key 5 ≡ lines region_line 0 5
