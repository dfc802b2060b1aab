-- A journal beside a publisher.
use Rattle.std.specs.Prelude.{◌≡◌, ◌<◌, ◌+◌, ℕ, Bool, true, false, List, Some, Err, length, map}
use Rattle.std.specs.Prelude.{nat_lt, slice_get, take, if◌then◌else◌}
use Rattle.store_journal.specs.Journal.{Stands}
use Rattle.store_journal.specs.declared.journal.Journal.{Journal}
use Rattle.store_refresh_entries.specs.Change.{IsSpelled, spelling_of}
use Rattle.store_state.specs.Refresh.{Change, after}
use Rattle.store_state.specs.Versions.{is_accepted, taken}
use Rattle.store_versions.specs.Trials.{Trials, offered, tables_of}
use Rattle.store_versions.specs.declared.attachment.Attachment.{Ghosts}
use Rattle.store_snapshots.specs.Publishers.{AcceptsNext, Edition, RefusesNext}
use Rattle.store_durability.specs.declared.stored.StoredAnswer.{StoredAnswer}
use Rattle.store_durability.specs.declared.stored.StoredAnswer.TheVariants.{Published, Refused, Failed}
use Rattle.store_durability.specs.declared.stored.StoredAnswer.TheVariants.{Shut}

-- the accepted ones of the refreshes that were tried
abbrev pub accepted_list : Trials → List Change
accepted_list trials = taken trials.base (take trials.done trials.list)

-- the payloads that a journal has of them
abbrev pub payloads_of : Trials → List (List ℕ)
payloads_of trials = map spelling_of (accepted_list trials)

-- a journal that isn't shut holds just the accepted refreshes, on a disk of which a crash may leave
-- these files
abbrev pub Holds : (List ℕ → Type 0) → Trials → Journal → Type 0
Holds may_leave trials journal = journal.is_shut ≡ false
    → Stands IsSpelled may_leave (payloads_of trials) journal.end

-- the refresh is the list's next one, where one is left
abbrev pub IsNext : Change → Trials → Type 0
IsNext change trials =
    trials.done < length trials.list → slice_get trials.list trials.done ≡ Some change

-- where none is left, one more has room at the list's end
abbrev pub HasRoomForOne : Trials → Type 0
HasRoomForOne trials = trials.done ≡ length trials.list → length trials.list < trials.most

-- the trials whose next refresh it is: these where the list has one left, else these with it at the
-- list's end
abbrev pub trials_with : Change → Trials → Trials
trials_with change trials =
    if nat_lt trials.done (length trials.list) then trials else offered change trials

-- What comes of a refresh, by whether the journal was shut before. It is refused exactly for its
-- first cause in the last version; of an accepted one that the journal is shut to, exactly, is told
-- so. Only a published or refused one is tried.
abbrev pub Stores : {A : Type 0} {g : Ghosts A} → Change → Bool → Edition → Edition
    → StoredAnswer A g → Type 0
Stores change shut old new (Published note) = (is_accepted (tables_of old.version) change ≡ true)
    × (shut ≡ false) × AcceptsNext (trials_with change old.version) new note
Stores change shut old new (Refused cause) = (after (tables_of old.version) change ≡ Err cause)
    × RefusesNext (trials_with change old.version) cause old.shown new
Stores change shut old new Failed = (is_accepted (tables_of old.version) change ≡ true)
    × (shut ≡ false) × (new ≡ old)
Stores change shut old new Shut = (is_accepted (tables_of old.version) change ≡ true)
    × (shut ≡ true) × (new ≡ old)

-- what comes of the journal: it takes more behind the entry of a published refresh, is as it was where
-- nothing was stored, and is shut where the disk failed
abbrev pub LeavesJournal : {A : Type 0} {g : Ghosts A} → Change → Journal → Journal
    → StoredAnswer A g → Type 0
LeavesJournal change old new (Published note) = (new.is_shut ≡ false)
    × (new.end ≡ old.end + (9 + length (spelling_of change)))
LeavesJournal change old new (Refused cause) = new ≡ old
LeavesJournal change old new Failed = new.is_shut ≡ true
LeavesJournal change old new Shut = new ≡ old
