-- A publisher's list, each refresh of which is stored before it is published.
use Rattle.std.specs.Prelude.{◌≡◌, ◌⊎◌, ◌<◌, ◌≤◌, ◌+◌, ◌-◌, ◌*◌, ◌^◌, ℕ, Bool, true, false, List, Some, length}
use Rattle.std.specs.Prelude.{drop, slice_get}
use Rattle.std.specs.List.{AllByRecursion}
use Rattle.store_journal.specs.Format.{StandsFor}
use Rattle.store_journal.specs.Journal.{WithOrWithout}
use Rattle.store_journal.specs.declared.journal.Journal.{Journal}
use Rattle.store_refresh_entries.specs.Change.{HasFewBytes, IsSpelled, IsStorable, spelling_of}
use Rattle.store_state.specs.Refresh.{Change}
use Rattle.store_versions.specs.Trials.{Trials}
use Rattle.store_versions.specs.declared.attachment.Attachment.{Ghosts}
use Rattle.store_snapshots.specs.Publishers.{AcceptsNext, Edition, RefusesNext}
use Rattle.store_durability.specs.Stored.{Holds, payloads_of}
use Rattle.store_durability.specs.declared.feed.StoredTurn.{StoredTurn}
use Rattle.store_durability.specs.declared.feed.StoredTurn.TheVariants.{Published, Refused, Failed}
use Rattle.store_durability.specs.declared.feed.StoredTurn.TheVariants.{Ended}

-- A publisher of the version fits the journal and its disk: the journal holds just the accepted
-- refreshes and takes more, each one that the list has left may come to be stored, and there is room
-- for all of them.
pub record StoredFits {D : Type 0} (is_reached : D → Bool) (may_leave : D → List ℕ → Type 0)
    (journal : Journal) (disk : D) (version : Trials) : Type 0 where
  pub reached : is_reached disk ≡ true
  pub working : journal.is_shut ≡ false
  pub within : version.done ≤ length version.list
  pub holds : Holds (may_leave disk) version journal
  pub storable : AllByRecursion IsStorable (drop version.done version.list)
  pub short : AllByRecursion HasFewBytes (drop version.done version.list)
  pub room : journal.end + (length version.list - version.done) * 2 ^ 44 < 2 ^ 62

-- What a turn does: the list's next refresh is accepted or refused; or nothing, where the disk failed
-- or each refresh was tried.
abbrev pub TakesStoredTurn : {A : Type 0} {g : Ghosts A} → Edition → Edition → StoredTurn A g → Type 0
TakesStoredTurn old new (Published note) = (old.version.done < length old.version.list)
    × AcceptsNext old.version new note
TakesStoredTurn old new (Refused cause) = (old.version.done < length old.version.list)
    × RefusesNext old.version cause old.shown new
TakesStoredTurn old new Failed = (old.version.done < length old.version.list) × (new ≡ old)
TakesStoredTurn old new Ended = (old.version.done ≡ length old.version.list) × (new ≡ old)

-- the file stands for the accepted refreshes, or for these and the list's next one
abbrev pub WithNextOrWithout : Trials → List ℕ → Type 0
WithNextOrWithout version file = StandsFor IsSpelled file (payloads_of version)
    ⊎ ((change : Change) × (slice_get version.list version.done ≡ Some change)
    × WithOrWithout IsSpelled (payloads_of version) (spelling_of change) file)
