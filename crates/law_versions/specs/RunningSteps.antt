-- What running sessions and the publisher do, in the machine's steps.
use Rattle.std.specs.Prelude.{◌≡◌, ◌⊎◌, ℕ, ◌≤◌, List, [], ◌∷◌, length, max, true, is_some, Result}
use Rattle.std.specs.Prelude.{Ok, Err}
use Rattle.store_versions.specs.Older.{GivesOlder}
use Rattle.store_state.specs.Refresh.{Change}
use Rattle.store_versions.specs.Trials.{Trials, offered, version_of}
use Rattle.store_versions.specs.declared.attachment.Attachment.{Ghosts}
use Rattle.store_versions.specs.declared.version_error.VersionError.{VersionError}
use Rattle.store_versions.specs.declared.version_error.VersionError.TheVariants.{Unknown, Gone}
use Rattle.store_versions.specs.declared.version_error.VersionError.TheVariants.{OutOfMemory}
use Rattle.store_snapshots.specs.Openings.{HasRisen}
use Rattle.store_snapshots.specs.Given.{TriesNext}
use Rattle.store_snapshots.specs.Publishers.{Edition, Tries}
use Rattle.store_snapshots.specs.Seen.{Began}
use Rattle.store_snapshots.specs.declared.publisher.Given.{Given}
use Rattle.store_snapshots.specs.declared.publisher.Given.TheVariants.{OutOfMemory as GivenNoMemory}
use Rattle.store_snapshots.specs.declared.publisher.Published.{Published as Answer}
use Rattle.store_snapshots.specs.declared.publisher.Published.TheVariants.{OutOfMemory as NoMemory}
use Rattle.store_machine.specs.Laws.{IsSession}
use Rattle.store_machine.specs.Machine.{SessionState, World, happens, is_cut, pinned, pinned_back}
use Rattle.store_machine.specs.Machine.{published, run, session_of}
use Rattle.store_machine.specs.declared.steps.Step.TheVariants.{Again, Back, Begin, Compact}
use Rattle.store_machine.specs.declared.steps.Step.TheVariants.{Learn, Offer, Publish}

-- the machine at a version that a publisher keeps, beside some sessions
abbrev pub world_at : Trials → List SessionState → World
world_at trials sessions = record
    { base = trials.base; list = trials.list; done = trials.done; sessions = sessions }

-- A reader begins, while the machine's published version is the one that its entry would give.
-- Where its entries rose, that is the step Begin, and where its refusals rose, the step Again: the
-- session then pins the version that the reader gives.
abbrev pub BeginLaw : Type 0
BeginLaw = (world : World) (session : ℕ) (cuts : List (List ℕ))
    (entries more refusals others seen version : ℕ)
    → IsSession world session → (session_of world session).seen ≡ seen
    → Began (published world) entries more refusals others seen version
    → is_cut world.base world.list version cuts ≡ true
    → (HasRisen entries more
    × (session_of (happens world (Begin session cuts)) session ≡ pinned version cuts))
    ⊎ (HasRisen refusals others
    × (session_of (happens world (Again session cuts)) session ≡ pinned version cuts))

-- what a session's machine comes to by the step Back, by the answer of a snapshot that was asked
-- for the version: where it is given, the session pins it; where it is refused, nothing changes
abbrev pub GoesBack : World → ℕ → ℕ → List (List ℕ) → Result Trials VersionError → Type 0
GoesBack world session number cuts (Ok older) =
    session_of (happens world (Back session number cuts)) session
    ≡ pinned_back (version_of older) cuts (session_of world session)
GoesBack world session number cuts (Err Unknown) = happens world (Back session number cuts) ≡ world
GoesBack world session number cuts (Err Gone) = happens world (Back session number cuts) ≡ world
GoesBack world session number cuts (Err OutOfMemory) = Unit {0}

-- A session pins a version, that of a snapshot is the last that it has seen, and the snapshot is
-- asked for the version of a number, whose tables are cut so: that is the step Back.
abbrev pub BackLaw : Type 0
BackLaw = (world : World) (session number : ℕ) (cuts : List (List ℕ)) (last : Trials)
    (answer : Result Trials VersionError)
    → IsSession world session → is_some (session_of world session).pin ≡ true
    → (session_of world session).seen ≡ version_of last
    → is_cut world.base world.list number cuts ≡ true
    → GivesOlder last number answer → GoesBack world session number cuts answer

-- A reader takes a note of an earlier or the published version: that is the step Learn, and the
-- session has then seen at least the note's version.
abbrev pub LearnLaw : Type 0
LearnLaw = (world : World) (session note : ℕ)
    → IsSession world session → note ≤ published world
    → session_of (happens world (Learn session note)) session
    ≡ record (session_of world session) { seen = max (session_of world session).seen note }

-- A version of a list that is longer by a refresh is offered: that is the step Offer.
abbrev pub OfferLaw : Type 0
OfferLaw = (old : Trials) (change : Change) (sessions : List SessionState)
    → happens (world_at old sessions) (Offer change) ≡ world_at (offered change old) sessions

-- A publisher tries the next refresh of its list, or finds that each was tried: that is the step
-- Publish, whatever is attached to its versions.
abbrev pub PublishLaw : {A : Type 0} → Ghosts A → Type 0
PublishLaw {A} g = (old new : Trials) (answer : Answer A g) (sessions : List SessionState)
    → Tries old new answer → (answer ≡ NoMemory → ⊥)
    → happens (world_at old sessions) Publish ≡ world_at new sessions

-- A publisher whose whole list was tried is given a refresh, and tries it: these are the steps
-- Offer and Publish.
abbrev pub GiveLaw : {A : Type 0} → Ghosts A → Type 0
GiveLaw {A} g = (old new : Edition) (change : Change) (answer : Given A g)
    (sessions : List SessionState)
    → old.version.done ≡ length old.version.list
    → TriesNext (offered change old.version) old new answer → (answer ≡ GivenNoMemory → ⊥)
    → run (Offer change ∷ Publish ∷ []) (world_at old.version sessions)
    ≡ world_at new.version sessions

-- A publisher puts segments together, which leaves its version as it was: that is the step Compact.
abbrev pub CompactLaw : Type 0
CompactLaw = (old new : Trials) (sessions : List SessionState) → new ≡ old
    → happens (world_at old sessions) Compact ≡ world_at new sessions
