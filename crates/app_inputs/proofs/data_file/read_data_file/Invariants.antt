use Rattle.std.proofs.Common.{◌≡◌, ◌≤◌, ◌-◌, List, ℕ, length, true}
use Rattle.std.specs.Io.KnownBytes.{Consumes}
use Rattle.store_file_reader.specs.File.{most_bytes}
use Rattle.store_file_reader.specs.Reading.{HasRead, bytes_fed}
use Rattle.app_inputs.specs.DataFile.{reading_of}
use Rattle.app_inputs.proofs.data_file.read_data_file.Given as goal

-- some bytes were read so far, and the reader has been fed just these
abbrev pub invariant-pieces : goal.invariant-pieces
invariant-pieces g l =
    (so_far : List ℕ) × Consumes (g.F.Files.left l.fn.files) (g.F.Files.left l.files) so_far × HasRead so_far (reading_of l.reader)
    × ((reading_of l.reader).lines.form ≡ (reading_of l.fn.reader).lines.form) × ((reading_of l.reader).lines.limit ≡ most_bytes) × (bytes_fed (reading_of l.reader) ≤ most_bytes)
    × (length l.piece ≡ 65536) × (g.F.Files.is_open l.files ≡ true) × (g.F.Files.held l.files ≡ g.F.Files.held l.fn.files)
    × (g.F.Files.faults l.fn.files ≤ g.F.Files.faults l.files) × (g.F.Files.misses l.fn.files ≤ g.F.Files.misses l.files)

abbrev pub decreases-pieces : goal.decreases-pieces
decreases-pieces g l = most_bytes - bytes_fed (reading_of l.reader)
