-- The version that a refresh leaves, and where its segments are put together.
use Rattle.std.proofs.Common.{◌≡◌, ◌∙◌, Option, Some, ap, refl, subst, sym, true}
use Rattle.app_sessions.specs.Compaction.{IsCompactedWhenDue, is_compaction_due}
use Rattle.store_snapshots.specs.Publishers.{Cut, LiesJoined}
use Rattle.store_versions.specs.Segments.{Compaction, IsCompacted}
use Rattle.store_versions.specs.Trials.{Trials, version_of}

-- a version that was put together lies in these segments
pub lies_joined : (version : Trials) (compaction : Compaction) → IsCompacted version compaction → LiesJoined version (Some compaction.tables)
lies_joined version compaction is = record { same = refl; rows = is.rows; joined = is.joined }

-- after an accepted refresh
pub compacted_next : (old made new : Trials) (joined : Option Cut) → new ≡ made → (is_compaction_due (version_of made) ≡ true → LiesJoined made joined) → IsCompactedWhenDue old new joined
compacted_next old made new joined is compacted = λ differs due. subst (λ v. LiesJoined v joined) (sym is) (compacted (ap (λ v. is_compaction_due (version_of v)) (sym is) ∙ due))
