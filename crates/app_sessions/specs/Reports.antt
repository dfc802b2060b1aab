-- What comes of refreshes that are tried one after another, and how a job prints it.
use Rattle.std.specs.Prelude.{◌≡◌, ◌⊎◌, ℕ, ◌+◌, ◌≤◌, Bool, true, false, ◌&&◌, List, [], ◌∷◌, ◌++◌}
use Rattle.std.specs.Prelude.{codes, decimal, length, take}
use Rattle.std.specs.Prelude.{Option, None, Some, Result, Ok, Err}
use Rattle.base_refusals.specs.declared.refresh.Cause.{Cause}
use Rattle.base_refusals.specs.declared.statement.Refusal.TheVariants.{Refresh}
use Rattle.app_result_text.specs.Refusal.{refusal_written}
use Rattle.store_snapshots.specs.Openings.{IsOf, opening_at}
use Rattle.store_snapshots.specs.Publishers.{Edition}
use Rattle.store_snapshots.specs.Turns.{IsNextIn}
use Rattle.store_versions.specs.Trials.{Trials, one_more, tables_of, version_of}
use Rattle.store_state.specs.Prefixes.{IsPrefix}
use Rattle.store_state.specs.Refresh.{Change, after}
use Rattle.store_state.specs.Versions.{is_accepted, tried}
use Rattle.base_schema.specs.State.{State}
use Rattle.app_sessions.specs.Orders.{RefreshOrder, changes_of}
use Rattle.app_sessions.specs.declared.report.Report.{Report}

-- the version that a refresh makes, or its first cause
abbrev pub version_or_cause : ℕ → Result State Cause → Result ℕ Cause
version_or_cause before (Ok tables) = Ok (before + 1)
version_or_cause before (Err cause) = Err cause

-- what comes of a refresh that is tried on the tables of a version
abbrev pub result_on : State → ℕ → Change → Result ℕ Cause
result_on tables version change = version_or_cause version (after tables change)

-- the version after that
abbrev pub version_after : ℕ → Result ℕ Cause → ℕ
version_after before (Ok version) = version
version_after before (Err cause) = before

-- the version that a refresh made, or its refusal, as its line says it
abbrev pub result_written : Result ℕ Cause → List ℕ
result_written (Ok version) = codes "version " ++ decimal version
result_written (Err cause) = refusal_written (Refresh cause)

-- the sender of a refresh, as its line says it
abbrev pub sender_written : Option ℕ → List ℕ
sender_written None = []
sender_written (Some sender) = codes "from " ++ decimal sender ++ codes " "

-- the line of the refresh of this number, with its sender if it has one
abbrev pub refresh_line : ℕ → Option ℕ → Result ℕ Cause → List ℕ
refresh_line number sender tried =
    codes "refresh " ++ decimal number ++ codes " " ++ sender_written sender
    ++ result_written tried ++ codes "\n"

-- The lines of refreshes, numbered on, that are tried in this order, the first of them on the
-- tables of a version. Each is tried on what those before it leave.
abbrev pub report_text : State → ℕ → ℕ → RefreshOrder → List ℕ
report_text tables version number [] = []
report_text tables version number (entry ∷ order) =
    refresh_line number entry.0 (result_on tables version entry.1)
    ++ report_text (tried tables entry.1)
    (version_after version (result_on tables version entry.1)) (number + 1) order

-- none of them is refused
abbrev pub are_accepted : State → RefreshOrder → Bool
are_accepted tables [] = true
are_accepted tables (entry ∷ order) =
    is_accepted tables entry.1 && are_accepted (tried tables entry.1) order

-- The publisher has come from a version, at which readers were shown the whole list, by trying
-- these refreshes, the list's own or further ones: they are done after those that were done then.
-- What readers are shown may lack the last ones of the list.
pub record HasTried (start : Trials) (now : Edition) (order : RefreshOrder) : Type 0 where
  pub version : IsOf (opening_at start) now.version
  pub shown : IsOf (opening_at start) now.shown
  pub behind : IsPrefix now.shown.list now.version.list
  pub within : now.version.done ≤ length now.version.list
  pub done : take now.version.done now.version.list
      ≡ take start.done start.list ++ changes_of order

-- the report tells of these refreshes, the first of which was tried on a version
pub record IsTold (start : Trials) (order : RefreshOrder) (report : Report) : Type 0 where
  pub count : report.count ≡ length order
  pub text : report.text.items ≡ report_text (tables_of start) (version_of start) 1 order
  pub accepted : report.accepted ≡ are_accepted (tables_of start) order

-- A feed's publisher tried one refresh more, which the report tells of, and may have put the
-- segments together.
pub record PublishesRefresh (tried more : RefreshOrder) (old new : Edition) (before after : Report)
    : Type 0 where
  pub sender : Option ℕ
  pub change : Change
  pub trials : Trials
  pub order : more ≡ tried ++ (sender, change) ∷ []
  pub next : IsNextIn change old.version trials
  pub version : new.version ≡ one_more trials
  pub shown : (new.shown ≡ old.shown) ⊎ (new.shown ≡ new.version)
  pub count : after.count ≡ before.count + 1
  pub text : after.text.items ≡ before.text.items
      ++ refresh_line (before.count + 1) sender
      (result_on (tables_of trials) (version_of trials) change)
  pub accepted : after.accepted ≡ (before.accepted && is_accepted (tables_of trials) change)

-- so it did; or none is left, and all stays
abbrev pub PublishesOne : RefreshOrder → RefreshOrder → (Trials → Type 0) → Edition → Edition
    → Report → Report → Bool → Type 0
PublishesOne tried more over old new before after true =
    PublishesRefresh tried more old new before after
PublishesOne tried more over old new before after false =
    (more ≡ tried) × (new ≡ old) × (after ≡ before) × over new.version
    × (new.version.done ≡ length new.version.list)
