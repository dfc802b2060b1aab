use Rattle.std.proofs.Common.{◌≡◌, []}
use Rattle.std.specs.Prelude.{take}
use Rattle.store_groups.specs.Pages.{entries_of}
use Rattle.store_kept_views.proofs.output.first_page.Given as goal

abbrev pub invariant-loop-page : goal.invariant-loop-page
invariant-loop-page l = entries_of (take l.page-index l.pages) ≡ []
