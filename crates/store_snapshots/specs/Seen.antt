-- What a reader is seen as.
use Rattle.std.specs.Prelude.{◌≡◌, ◌⊎◌, ℕ}
use Rattle.store_versions.specs.Trials.{Trials}
use Rattle.store_snapshots.specs.Openings.{HasRisen}

-- an entry, and the version last seen
pub record ReaderState (E : Type 0) : Type 0 where
  pub entry : E
  pub seen : Trials

-- with the entry's number, its entries and refusals before and after, the number of the version
-- seen before, and that of the snapshot: it was entered, or the entry was refused and it is the one
-- seen before; the other count stays
abbrev pub Began : ℕ → ℕ → ℕ → ℕ → ℕ → ℕ → ℕ → Type 0
Began number entries more refusals others seen version =
    (HasRisen entries more × (version ≡ number) × (others ≡ refusals))
    ⊎ (HasRisen refusals others × (version ≡ seen) × (more ≡ entries))
