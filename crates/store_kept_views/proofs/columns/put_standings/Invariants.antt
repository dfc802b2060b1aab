use Rattle.std.proofs.Common.{◌≡◌, ◌++◌}
use Rattle.std.specs.Prelude.{take, map}
use Rattle.base_value.specs.Truth.{standing_rank}
use Rattle.store_kept_views.proofs.columns.put_standings.Given as goal

abbrev pub invariant-loop-i : goal.invariant-loop-i
invariant-loop-i l = map standing_rank l.standings.items ≡ map standing_rank l.initial.standings.items ++ map (λ e. e.1.least) (take l.i l.page)
