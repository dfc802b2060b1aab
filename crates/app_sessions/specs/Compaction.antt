-- When the segments of a version are put together.
use Rattle.std.specs.Prelude.{◌≡◌, ◌≢◌, ◌%◌, ◌==◌, ℕ, Bool, true, Option}
use Rattle.store_snapshots.specs.Publishers.{Cut, LiesJoined}
use Rattle.store_versions.specs.Trials.{Trials, version_of}

-- whether the segments are put together at a version that a refresh makes
abbrev pub is_compaction_due : ℕ → Bool
is_compaction_due version = version % 16 == 0

-- where a refresh made a version at which that is due, the version lies in joined segments
abbrev pub IsCompactedWhenDue : Trials → Trials → Option Cut → Type 0
IsCompactedWhenDue old new joined =
    version_of new ≢ version_of old → is_compaction_due (version_of new) ≡ true
    → LiesJoined new joined
