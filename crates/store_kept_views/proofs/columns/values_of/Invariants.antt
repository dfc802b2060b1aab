use Rattle.std.proofs.Common.{◌≡◌}
use Rattle.std.specs.Prelude.{take, map}
use Rattle.store_groups.specs.Pages.{entries_of}
use Rattle.store_kept_views.specs.Output.{value_in}
use Rattle.store_kept_views.proofs.columns.values_of.Given as goal

abbrev pub invariant-loop-page : goal.invariant-loop-page
invariant-loop-page l = l.builder ≡ map (value_in l.plan l.place) (entries_of (take l.page-index l.pages))
