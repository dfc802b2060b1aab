use Rattle.std.proofs.Common.{◌≤◌, ◌≡◌, ◌+◌, ◌-◌, length, true}
use Rattle.std.specs.Io.KnownBytes.{Consumes}
use Rattle.app_inputs.proofs.input.front.Given as goal

abbrev pub invariant-loop-files : goal.invariant-loop-files
invariant-loop-files g l = Consumes (g.F.Files.left l.fn.files) (g.F.Files.left l.files) l.bytes.items × (g.F.Files.is_open l.files ≡ true) × (g.F.Files.held l.files ≡ g.F.Files.held l.fn.files)
    × (g.F.Files.faults l.fn.files ≤ g.F.Files.faults l.files) × (g.F.Files.misses l.fn.files ≤ g.F.Files.misses l.files)

abbrev pub decreases-loop-files : goal.decreases-loop-files
decreases-loop-files g l = l.limit + 1 - length l.bytes.items
