-- The machine: sessions that begin, scan and learn, beside refreshes that are published.
use Rattle.std.specs.Prelude.{ℕ, zero, suc, ◌+◌, Bool, ◌&&◌, ◌==◌, nat_le, nat_lt, List, [], ◌∷◌}
use Rattle.std.specs.Prelude.{◌++◌, length, take, drop, max, replicate, Option, Some, None}
use Rattle.std.specs.Prelude.{slice_index_or, slice_set, if◌then◌else◌}
use Rattle.std.specs.List.{list_all}
use Rattle.std.specs.Option.{is_some}
use Rattle.base_value.specs.declared.value.Value.{Value}
use Rattle.base_schema.specs.declared.table.TableName.{TableName}
use Rattle.base_schema.specs.State.{State, table_rows}
use Rattle.base_schema.specs.Tables.{all_tables}
use Rattle.store_state.specs.Lists.{place_of}
use Rattle.store_state.specs.Refresh.{Change}
use Rattle.store_state.specs.Versions.{accepted, version_state}
use Rattle.store_machine.specs.declared.steps.Step.{Step}
use Rattle.store_machine.specs.declared.steps.Step.TheVariants.{Begin, Again, Back, Scan}
use Rattle.store_machine.specs.declared.steps.Step.TheVariants.{Offer, Publish, Compact, Finish}
use Rattle.store_machine.specs.declared.steps.Step.TheVariants.{Learn}

-- a piece that a session scanned: its table, its number among that table's pieces, and its rows
pub record ScannedPiece : Type 0 where
  pub table : TableName
  pub number : ℕ
  pub rows : List (List Value)

-- a session: the version that it has seen; the one that it pins, if any, with the lengths of the
-- pieces into which that version's tables are cut, in the schema's order of tables; and the pieces
-- that it scanned since it pinned
pub record SessionState : Type 0 where
  pub seen : ℕ
  pub pin : Option ℕ
  pub cuts : List (List ℕ)
  pub pieces : List ScannedPiece

-- the whole: the base, the list of refreshes, how many of them were tried, and the sessions
pub record World : Type 0 where
  pub base : State
  pub list : List Change
  pub done : ℕ
  pub sessions : List SessionState

-- a session that has done nothing
abbrev pub new_session : SessionState
new_session = record { seen = 0; pin = None; cuts = []; pieces = [] }

-- nothing tried, and n new sessions
abbrev pub start : State → List Change → ℕ → World
start base list sessions =
    record { base = base; list = list; done = 0; sessions = replicate sessions new_session }

-- the number of the published version
abbrev pub published : World → ℕ
published world = accepted world.base world.list world.done

-- the rows of a table in a version
abbrev pub rows_in : State → List Change → ℕ → TableName → List (List Value)
rows_in base list version table = table_rows (version_state base list version) table

-- the lengths of a table's pieces
abbrev pub lengths_of : List (List ℕ) → TableName → List ℕ
lengths_of cuts table = slice_index_or cuts (place_of table) []

-- the sum of some lengths
abbrev pub total : List ℕ → ℕ
total [] = 0
total (n ∷ lengths) = n + total lengths

-- the lengths of each table's pieces add up to its number of rows in a version
abbrev pub is_cut : State → List Change → ℕ → List (List ℕ) → Bool
is_cut base list version cuts =
    list_all (λ table. total (lengths_of cuts table) == length (rows_in base list version table))
    all_tables

-- rows cut into pieces of these lengths
abbrev pub pieces_of : List ℕ → List (List Value) → List (List (List Value))
pieces_of [] rows = []
pieces_of (n ∷ lengths) rows = take n rows ∷ pieces_of lengths (drop n rows)

-- a session pins a version, which it then has seen, and forgets what it scanned
abbrev pub pinned : ℕ → List (List ℕ) → SessionState
pinned version cuts = record { seen = version; pin = Some version; cuts = cuts; pieces = [] }

-- a session takes the published version, if the cuts are of it
abbrev pub begun : World → List (List ℕ) → SessionState → SessionState
begun world cuts session =
    if is_cut world.base world.list (published world) cuts then pinned (published world) cuts else
    session

-- a session takes the version again that it has seen, if the cuts are of it
abbrev pub begun_again : World → List (List ℕ) → SessionState → SessionState
begun_again world cuts session =
    if is_cut world.base world.list session.seen cuts then pinned session.seen cuts else session

-- a session that pins a version may pin in its place one of a number that is at most the last that
-- it has seen, and fewer than 64 before it
abbrev pub may_go_back : SessionState → ℕ → Bool
may_go_back session version = is_some session.pin
    && (nat_le version session.seen && nat_lt session.seen (version + 64))

-- a session pins an earlier version, and forgets what it scanned; what it has seen stays
abbrev pub pinned_back : ℕ → List (List ℕ) → SessionState → SessionState
pinned_back version cuts session =
    record session { pin = Some version; cuts = cuts; pieces = [] }

-- a session goes back to a version, if it may and the cuts are of it
abbrev pub gone_back : World → ℕ → List (List ℕ) → SessionState → SessionState
gone_back world version cuts session =
    if may_go_back session version && is_cut world.base world.list version cuts
    then pinned_back version cuts session else session

-- a session takes a note, the number of an earlier or the published version: it has then seen that
-- one
abbrev pub learnt : World → ℕ → SessionState → SessionState
learnt world note session =
    if nat_le note (published world) then record session { seen = max session.seen note } else
    session

-- a session drops its pin
abbrev pub finished : SessionState → SessionState
finished session = record session { pin = None }

-- the piece of that number of a table of a version
abbrev pub piece_of : State → List Change → ℕ → List (List ℕ) → TableName → ℕ → ScannedPiece
piece_of base list version cuts table number = record {
  table = table;
  number = number;
  rows = slice_index_or (pieces_of (lengths_of cuts table) (rows_in base list version table)) number
      [];
}

-- a session scans a piece of the version that it pins, if there is a piece of that number
abbrev pub scanned_at : World → Option ℕ → TableName → ℕ → SessionState → SessionState
scanned_at world None table number session = session
scanned_at world (Some version) table number session =
    if nat_lt number (length (lengths_of session.cuts table))
    then record session {
      pieces = session.pieces
          ++ piece_of world.base world.list version session.cuts table number ∷ [];
    }
    else session

-- the session of a number among some; numbers count from 1
abbrev pub session_in : List SessionState → ℕ → SessionState
session_in sessions zero = new_session
session_in sessions (suc place) = slice_index_or sessions place new_session

-- some sessions with the one of a number changed, if there is one
abbrev pub changed_in : List SessionState → ℕ → (SessionState → SessionState) → List SessionState
changed_in sessions zero change = sessions
changed_in sessions (suc place) change =
    slice_set sessions place (change (slice_index_or sessions place new_session))

-- the session of that number
abbrev pub session_of : World → ℕ → SessionState
session_of world number = session_in world.sessions number

-- one session changed
abbrev pub with_session : World → ℕ → (SessionState → SessionState) → World
with_session world number change =
    record world { sessions = changed_in world.sessions number change }

-- what a step does; one whose condition fails changes nothing
abbrev pub happens : World → Step → World
happens world (Begin session cuts) = with_session world session (begun world cuts)
happens world (Again session cuts) = with_session world session (begun_again world cuts)
happens world (Back session version cuts) =
    with_session world session (gone_back world version cuts)
happens world (Scan session table number) =
    with_session world session (λ s. scanned_at world s.pin table number s)
happens world (Offer change) = record world { list = world.list ++ change ∷ [] }
happens world Publish = record world
    { done = if nat_lt world.done (length world.list) then world.done + 1 else world.done }
happens world Compact = world
happens world (Finish session) = with_session world session finished
happens world (Learn session note) = with_session world session (learnt world note)

-- the refresh that a step puts at the end of the list, if it puts one there
abbrev pub offered_in : Step → List Change
offered_in (Offer change) = change ∷ []
offered_in step = []

-- a whole list of steps
abbrev pub run : List Step → World → World
run [] world = world
run (step ∷ steps) world = run steps (happens world step)

-- the refreshes that steps put at the end of the list, in their order
abbrev pub offered_by : List Step → List Change
offered_by [] = []
offered_by (step ∷ steps) = offered_in step ++ offered_by steps

-- the rows of the first piece of that table and number
abbrev pub piece_rows : List ScannedPiece → TableName → ℕ → Option (List (List Value))
piece_rows [] table number = None
piece_rows (piece ∷ pieces) table number =
    if place_of piece.table == place_of table && piece.number == number then Some piece.rows
    else piece_rows pieces table number

-- two lists joined, where both are there
abbrev pub joined : Option (List (List Value)) → Option (List (List Value))
    → Option (List (List Value))
joined None second = None
joined (Some first) None = None
joined (Some first) (Some second) = Some (first ++ second)

-- the pieces of a table from that number on, one for each length, joined by number, where all were
-- scanned
abbrev pub scan_from : List ScannedPiece → TableName → ℕ → List ℕ → Option (List (List Value))
scan_from pieces table number [] = Some []
scan_from pieces table number (n ∷ lengths) =
    joined (piece_rows pieces table number) (scan_from pieces table (number + 1) lengths)

-- the rows of a finished scan of a table, in a session that pins a version and scanned each piece
-- of the table
abbrev pub session_scan : Option ℕ → SessionState → TableName → Option (List (List Value))
session_scan None session table = None
session_scan (Some version) session table =
    scan_from session.pieces table 0 (lengths_of session.cuts table)

-- the rows of a session's finished scan of a table
abbrev pub finished_scan : World → ℕ → TableName → Option (List (List Value))
finished_scan world number table =
    session_scan (session_of world number).pin (session_of world number) table
