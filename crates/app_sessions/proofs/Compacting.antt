-- Where the segments of a version are put together.
use Rattle.std.proofs.Common.{◌≡◌, ◌∙◌, ℕ, Option, true, ap}
use Rattle.store_snapshots.specs.Publishers.{Cut, LiesJoined}
use Rattle.store_versions.specs.Trials.{Trials, version_of}
use Rattle.app_sessions.specs.Compaction.{IsCompactedWhenDue, is_compaction_due}

-- after an accepted refresh, by the version that it made
pub compacted_when_due : (old new : Trials) (joined : Option Cut) (version : ℕ) → version ≡ version_of new
    → (is_compaction_due version ≡ true → LiesJoined new joined) → IsCompactedWhenDue old new joined
compacted_when_due old new joined version is compacted = λ differs due. compacted (ap is_compaction_due is ∙ due)

-- a refused one makes no version
pub none_when_refused : (old new : Trials) (joined : Option Cut) → version_of new ≡ version_of old → IsCompactedWhenDue old new joined
none_when_refused old new joined same = λ differs due. absurd (differs same)
