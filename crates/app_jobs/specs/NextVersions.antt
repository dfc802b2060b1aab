-- The version that a refresh of a session leaves.
use Rattle.std.specs.Prelude.{Option, None, Some}
use Rattle.store_snapshots.specs.Publishers.{Cut}
use Rattle.store_versions.specs.Trials.{Trials}
use Rattle.app_jobs.specs.declared.turns.NextVersion.{NextVersion}
use Rattle.app_jobs.specs.declared.turns.NextVersion.TheVariants.{Tried, Joined}

-- that version, however it is kept
abbrev pub version_in : NextVersion → Trials
version_in (Tried version) = version
version_in (Joined compaction) = compaction.version

-- the segments that it is known to lie in
abbrev pub joined_in : NextVersion → Option Cut
joined_in (Tried version) = None
joined_in (Joined compaction) = Some compaction.tables
