-- What a publisher is seen as.
use Rattle.std.specs.Prelude.{◌≡◌, ℕ, ◌<◌, List, Option, Some, None, Result, Ok, Err, is_ok, length}
use Rattle.std.specs.Prelude.{true, ⊤}
use Rattle.left_right.specs.declared.Absorb as absorb
use Rattle.base_refusals.specs.declared.refresh.Cause.{Cause}
use Rattle.base_schema.specs.State.{State}
use Rattle.base_value.specs.declared.value.Value.{Value}
use Rattle.store_state.specs.Refresh.{Change, after}
use Rattle.store_state.specs.declared.applied.RefreshError.{RefreshError}
use Rattle.store_state.specs.declared.applied.RefreshError.TheVariants.{Refused as RefusedBy}
use Rattle.store_state.specs.declared.applied.RefreshError.TheVariants.{OutOfMemory as NoRoom}
use Rattle.store_versions.specs.Segments.{IsCompacted}
use Rattle.store_versions.specs.Trials.{IsAfter, Trials, version_of}
use Rattle.store_versions.specs.declared.attachment.Attachment.{Ghosts}
use Rattle.store_versions.specs.declared.directory.Directory.{Directory}
use Rattle.store_snapshots.specs.Rule.{MayFollow, on_shelf}
use Rattle.store_snapshots.specs.Ruled.{note_version}
use Rattle.store_snapshots.specs.declared.latest.Latest.{Latest}
use Rattle.store_snapshots.specs.declared.latest.Latest.TheVariants.{Tried, Joined}
use Rattle.store_snapshots.specs.declared.note.Note.{Note}
use Rattle.store_snapshots.specs.declared.publisher.Publisher.TheInside.{Inside}
use Rattle.store_snapshots.specs.declared.publisher.Published.{Published as Answer}
use Rattle.store_snapshots.specs.declared.publisher.Published.TheVariants.{Published, Refused}
use Rattle.store_snapshots.specs.declared.publisher.Published.TheVariants.{NoMore, OutOfMemory}
use Rattle.store_snapshots.specs.declared.shelf.Shelf.{Shelf}

-- the segments of each table, in the schema's order of tables
abbrev pub Cut : Type 0
Cut = List (List (List (List Value)))

-- the last version, the version that readers are shown, how often the hall refused an entry, and
-- the segments of the last version, where they are joined
pub record Edition : Type 0 where
  pub version : Trials
  pub shown : Trials
  pub refused : ℕ
  pub joined : Option Cut

-- a publisher's version, however it is kept
abbrev pub version_in : {A : Type 0} → Latest A → Trials
version_in (Tried version) = version
version_in (Joined compaction) = compaction.version

-- the segments that it is known to lie in
abbrev pub joined_in : {A : Type 0} → Latest A → Option Cut
joined_in (Tried version) = None
joined_in (Joined compaction) = Some compaction.tables

-- a version's tables lie in joined segments
abbrev pub LiesJoined : Trials → Option Cut → Type 0
LiesJoined version None = ⊥
LiesJoined version (Some tables) =
    IsCompacted version (record { version = version; tables = tables })

-- The version that is shown has the number of the publisher's last one, whose list begins with its
-- list. The last one has tried more where that was refused.
pub record IsInStep {A : Type 0} {k : absorb.Ghosts (Shelf A) (Shelf A) (Directory A)}
    (publisher : Inside A k) : Type 0 where
  pub follows : MayFollow (on_shelf publisher.writer.desk.shown.value) (version_in publisher.latest)
  pub number : version_of (on_shelf publisher.writer.desk.shown.value)
      ≡ version_of (version_in publisher.latest)

-- a note tells of the version
abbrev pub TellsVersion : {A : Type 0} {g : Ghosts A} → Trials → Note A g → Type 0
TellsVersion version note = note_version note ≡ version

-- a trial of the next refresh: an accepted one leaves the version after it, of which the note
-- tells; of a refused one only the number of tried refreshes rises; with no more refreshes, or out
-- of memory, all stays
abbrev pub Tries : {A : Type 0} {g : Ghosts A} → Trials → Trials → Answer A g → Type 0
Tries old new (Published note) = (old.done < length old.list) × IsAfter old old (Ok new)
    × TellsVersion new note
Tries old new (Refused cause) = (old.done < length old.list)
    × IsAfter old new (Err (RefusedBy cause))
Tries old new NoMore = (old.done ≡ length old.list) × (new ≡ old)
Tries old new OutOfMemory = new ≡ old

-- what is shown after it: the version after an accepted refresh, and else what was shown
abbrev pub Shows : {A : Type 0} {g : Ghosts A} → Edition → Edition → Answer A g → Type 0
Shows old new (Published note) = new.shown ≡ new.version
Shows old new (Refused cause) = new.shown ≡ old.shown
Shows old new NoMore = new.shown ≡ old.shown
Shows old new OutOfMemory = new.shown ≡ old.shown

-- with no more refreshes, or out of memory, all stays: the segments that the version is known to
-- lie in too
abbrev pub StaysUntried : {A : Type 0} {g : Ghosts A} → Edition → Edition → Answer A g → Type 0
StaysUntried old new (Published note) = Unit {0}
StaysUntried old new (Refused cause) = Unit {0}
StaysUntried old new NoMore = new ≡ old
StaysUntried old new OutOfMemory = new ≡ old

-- the next refresh of these trials is accepted: the version after it is shown, and the note tells
-- of it
pub record AcceptsNext {A : Type 0} {g : Ghosts A} (trials : Trials) (new : Edition)
    (note : Note A g) : Type 0 where
  pub after : IsAfter trials trials (Ok new.version)
  pub shown : new.shown ≡ new.version
  pub tells : TellsVersion new.version note

-- the next refresh of these trials is refused for this cause, and what was shown stays shown
pub record RefusesNext (trials : Trials) (cause : Cause) (before : Trials) (new : Edition)
    : Type 0 where
  pub after : IsAfter trials new.version (Err (RefusedBy cause))
  pub shown : new.shown ≡ before

-- whether a refresh would be accepted in a state, or its first cause
abbrev pub Foretells : State → Change → Result ⊤ RefreshError → Type 0
Foretells state change (Ok accepted) = is_ok (after state change) ≡ true
Foretells state change (Err (RefusedBy cause)) = after state change ≡ Err cause
Foretells state change (Err NoRoom) = Unit {0}
