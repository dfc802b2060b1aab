use Rattle.std.proofs.Common.{◌≡◌}
use Rattle.std.specs.Prelude.{take, map}
use Rattle.base_value.specs.Truth.{standing_rank}
use Rattle.store_groups.specs.Pages.{entries_of}
use Rattle.store_kept_views.proofs.columns.standings_of.Given as goal

abbrev pub invariant-loop-page : goal.invariant-loop-page
invariant-loop-page l = map standing_rank l.standings.items ≡ map (λ e. e.1.least) (entries_of (take l.page-index l.pages))
