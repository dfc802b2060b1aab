use Rattle.std.proofs.Common.{◌≡◌, ◌≤◌, drop, length}
use Rattle.std.specs.List.{AllByRecursion}
use Rattle.app_inputs.specs.Inputs.{changes_in}
use Rattle.store_refresh_entries.specs.Change.{MayBeStored}
use Rattle.app_inputs.specs.KnownFiles.{AreKnown}
use Rattle.app_inputs.specs.Views.{IfKnown}
use Rattle.app_inputs.proofs.Changes.{changes_behind}
use Rattle.app_inputs.proofs.refreshes.read_refreshes.Given as goal

abbrev pub invariant-loop-mention : goal.invariant-loop-mention
invariant-loop-mention g l =
    IfKnown (g.F.Files.held l.fn.files) (λ folder. changes_in l.folder l.mentions folder ≡ changes_behind l.list.items (changes_in l.folder (drop l.mention-index l.mentions) folder))
    × (length l.list.items ≡ l.mention-index)
    × (g.F.Files.held l.files ≡ g.F.Files.held l.fn.files)
    × (g.F.Files.faults l.fn.files ≤ g.F.Files.faults l.files) × (g.F.Files.misses l.fn.files ≤ g.F.Files.misses l.files)
    × AllByRecursion MayBeStored l.list.items
    × AreKnown l.folder (g.F.Files.held l.files) l.known.items
