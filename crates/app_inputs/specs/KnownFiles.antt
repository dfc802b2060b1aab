-- The files of refresh sets that were read.
use Rattle.std.specs.Prelude.{◌≡◌, ℕ, ◌<◌, List, length, Option, Ok, slice_index_or}
use Rattle.std.specs.List.{All}
use Rattle.base_refusals.specs.declared.refresh.RefreshFile.{RefreshFile}
use Rattle.base_io.specs.Outside.{Folder}
use Rattle.app_inputs.specs.Inputs.{set_rows_in}
use Rattle.app_inputs.specs.SetFile.{FitsFile, IsOfFile}
use Rattle.app_inputs.specs.Views.{IfKnown}
use Rattle.app_inputs.specs.declared.set_files.SetFile.{SetFile}

-- a file that was read is what the known files hold, and fits its form, which some file gave
pub record IsKnown (dir : List ℕ) (held : Option Folder) (known : SetFile) : Type 0 where
  pub rows : IfKnown held (λ folder. set_rows_in dir known.file known.set folder ≡ Ok known.rows)
  pub fits : FitsFile known.file known.rows
  pub given : IsOfFile known.file known.rows

-- each of the files that were read is so
abbrev pub AreKnown : List ℕ → Option Folder → List SetFile → Type 0
AreKnown dir held known = All (IsKnown dir held) known

-- at that place stands that file of that set
abbrev pub IsAt : List SetFile → ℕ → RefreshFile → ℕ → Type 0
IsAt known place file set = (place < length known)
    × ((d : SetFile) → (slice_index_or known place d).file ≡ file)
    × ((d : SetFile) → (slice_index_or known place d).set ≡ set)
