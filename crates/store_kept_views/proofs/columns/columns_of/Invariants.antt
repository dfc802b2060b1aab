use Rattle.std.proofs.Common.{◌≡◌}
use Rattle.std.specs.Prelude.{take}
use Rattle.store_groups.specs.Pages.{entries_of}
use Rattle.store_kept_views.specs.Output.{shown_columns}
use Rattle.store_kept_views.proofs.columns.columns_of.Given as goal

abbrev pub invariant-loop-place : goal.invariant-loop-place
invariant-loop-place l = l.columns.items ≡ shown_columns l.plan (take l.place-index l.plan.list) (entries_of l.pages)
