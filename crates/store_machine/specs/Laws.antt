-- What holds of the machine after any list of steps.
use Rattle.std.specs.Prelude.{◌≡◌, ℕ, ◌+◌, ◌<◌, ◌≤◌, true, List, ◌++◌, length, Option, Some}
use Rattle.base_value.specs.declared.value.Value.{Value}
use Rattle.base_schema.specs.declared.table.TableName.{TableName}
use Rattle.base_schema.specs.State.{State, table_rows}
use Rattle.store_state.specs.Refresh.{Change}
use Rattle.store_state.specs.Versions.{version_state}
use Rattle.store_machine.specs.Machine.{World, finished_scan, happens, is_cut, offered_by}
use Rattle.store_machine.specs.Machine.{published, run, session_of, start}
use Rattle.store_machine.specs.declared.steps.Step.{Step}
use Rattle.store_machine.specs.declared.steps.Step.TheVariants.{Begin, Again, Back, Learn}

-- the version that a session pins, if it pins one
abbrev pub pin_of : World → ℕ → Option ℕ
pin_of world number = (session_of world number).pin

-- the version that a session has seen
abbrev pub seen_of : World → ℕ → ℕ
seen_of world number = (session_of world number).seen

-- the list is the one at the start and then the refreshes that were put at its end, in their order
abbrev pub ListLaw : Type 0
ListLaw = (base : State) (list : List Change) (sessions : ℕ) (steps : List Step)
    → (run steps (start base list sessions)).list ≡ list ++ offered_by steps

-- whatever happened meanwhile, a finished scan of a table has the table's rows in the version that
-- the session pins: the base after just that number of accepted refreshes
abbrev pub ScanLaw : Type 0
ScanLaw = (base : State) (list : List Change) (sessions : ℕ) (steps : List Step) (session : ℕ)
    (table : TableName)
    (rows : List (List Value))
    → finished_scan (run steps (start base list sessions)) session table ≡ Some rows
    → (version : ℕ) × (pin_of (run steps (start base list sessions)) session ≡ Some version)
    × (rows ≡ table_rows (version_state base (list ++ offered_by steps) version) table)

-- the version that a session has seen never falls
abbrev pub SeenRisesLaw : Type 0
SeenRisesLaw = (base : State) (list : List Change) (sessions : ℕ) (steps more : List Step)
    (session : ℕ)
    → seen_of (run steps (start base list sessions)) session
    ≤ seen_of (run more (run steps (start base list sessions))) session

-- the version that a session has seen is at least each note that it had learnt
abbrev pub NotesLaw : Type 0
NotesLaw = (base : State) (list : List Change) (sessions : ℕ) (steps more : List Step)
    (session note : ℕ)
    → 0 < session → session ≤ sessions → note ≤ published (run steps (start base list sessions))
    → note
    ≤ seen_of (run more (happens (run steps (start base list sessions)) (Learn session note)))
    session

-- the session is one of the machine's; they count from 1
abbrev pub IsSession : World → ℕ → Type 0
IsSession world session = (0 < session) × (session ≤ length world.sessions)

-- a session that begins pins the published version, and has then seen it
abbrev pub BeginPinsLaw : Type 0
BeginPinsLaw = (world : World) (session : ℕ) (cuts : List (List ℕ))
    → IsSession world session → is_cut world.base world.list (published world) cuts ≡ true
    → (pin_of (happens world (Begin session cuts)) session ≡ Some (published world))
    × (seen_of (happens world (Begin session cuts)) session ≡ published world)

-- a session that begins again pins the version that it has seen
abbrev pub AgainPinsLaw : Type 0
AgainPinsLaw = (world : World) (session : ℕ) (cuts : List (List ℕ))
    → IsSession world session → is_cut world.base world.list (seen_of world session) cuts ≡ true
    → (pin_of (happens world (Again session cuts)) session ≡ Some (seen_of world session))
    × (seen_of (happens world (Again session cuts)) session ≡ seen_of world session)

-- a session that pins a version and goes back pins the one that it names, and what it has seen
-- stays
abbrev pub BackPinsLaw : Type 0
BackPinsLaw = (world : World) (session pin version : ℕ) (cuts : List (List ℕ))
    → IsSession world session → pin_of world session ≡ Some pin
    → version ≤ seen_of world session → seen_of world session < version + 64
    → is_cut world.base world.list version cuts ≡ true
    → (pin_of (happens world (Back session version cuts)) session ≡ Some version)
    × (seen_of (happens world (Back session version cuts)) session ≡ seen_of world session)

-- a pinned version is a published one
abbrev pub PublishedLaw : Type 0
PublishedLaw = (base : State) (list : List Change) (sessions : ℕ) (steps : List Step)
    (session version : ℕ)
    → pin_of (run steps (start base list sessions)) session ≡ Some version
    → version ≤ published (run steps (start base list sessions))
