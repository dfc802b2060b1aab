use Rattle.std.proofs.Common.{◌≡◌}
use Rattle.std.specs.Prelude.{take}
use Rattle.store_groups.specs.Pages.{entries_of}
use Rattle.store_groups.proofs.groups.page_entries.Given as goal

abbrev pub invariant-loop-page : goal.invariant-loop-page
invariant-loop-page l = l.all.items ≡ entries_of (take l.page-index l.pages)
