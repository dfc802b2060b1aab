use Rattle.std.proofs.Common.{◌≡◌, take}
use Rattle.std.specs.List.{range_with_len}
use Rattle.base_row_laws.specs.Matched.{right_places}
use Rattle.app_show_plan.proofs.ways.are_first.Given as goal

abbrev pub invariant-loop-place : goal.invariant-loop-place
invariant-loop-place l = right_places (take l.place l.matched) ≡ range_with_len 0 l.place
