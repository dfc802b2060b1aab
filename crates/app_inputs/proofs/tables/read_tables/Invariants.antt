use Rattle.std.proofs.Common.{◌≡◌, ◌≤◌, drop, length}
use Rattle.app_inputs.specs.Inputs.{lists_in}
use Rattle.app_inputs.specs.Lists.{TablesHaveKinds}
use Rattle.app_inputs.specs.Views.{IfKnown}
use Rattle.app_inputs.proofs.Lists.{behind}
use Rattle.app_inputs.proofs.tables.read_tables.Given as goal

abbrev pub invariant-loop-name : goal.invariant-loop-name
invariant-loop-name g l =
    IfKnown (g.F.Files.held l.fn.files) (λ folder. lists_in l.folder l.names folder ≡ behind l.tables.items (lists_in l.folder (drop l.name-index l.names) folder))
    × (length l.tables.items ≡ l.name-index)
    × TablesHaveKinds l.names l.tables.items
    × (g.F.Files.held l.files ≡ g.F.Files.held l.fn.files)
    × (g.F.Files.faults l.fn.files ≤ g.F.Files.faults l.files) × (g.F.Files.misses l.fn.files ≤ g.F.Files.misses l.files)
