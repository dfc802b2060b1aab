-- Earlier versions.
use Rattle.std.specs.Prelude.{◌≡◌, ℕ, ◌+◌, ◌<◌, ◌≤◌, nat_lt, Bool, ◌&&◌, List, Result, Ok, Err}
use Rattle.std.specs.List.{All}
use Rattle.base_schema.specs.State.{State}
use Rattle.store_state.specs.Versions.{version_state}
use Rattle.store_versions.specs.Trials.{HasKept, Trials, tables_of, version_of}
use Rattle.store_versions.specs.declared.version_error.VersionError.{VersionError}
use Rattle.store_versions.specs.declared.version_error.VersionError.TheVariants.{Unknown, Gone}
use Rattle.store_versions.specs.declared.version_error.VersionError.TheVariants.{OutOfMemory}

-- beside the last version's number, the number is of a version that is not there yet
abbrev pub IsUnknown : ℕ → ℕ → Type 0
IsUnknown last number = last < number

-- the number is of a version that is 64 or more versions ago
abbrev pub IsGone : ℕ → ℕ → Type 0
IsGone last number = number + 64 ≤ last

-- the number is of the last version or of one of the 63 before it
abbrev pub IsRecent : ℕ → ℕ → Type 0
IsRecent last number = (number ≤ last) × (last < number + 64)

-- the version of a number, of the same base and list: its tables are the base after the first so
-- many accepted refreshes
pub record IsOlder (last : Trials) (number : ℕ) (older : Trials) : Type 0 where
  pub base : older.base ≡ last.base
  pub list : older.list ≡ last.list
  pub most : older.most ≡ last.most
  pub version : version_of older ≡ number
  pub tables : tables_of older ≡ version_state last.base last.list number

-- what comes of asking a version for the one of a number: that one, where it is recent; else why
-- not
abbrev pub GivesOlder : Trials → ℕ → Result Trials VersionError → Type 0
GivesOlder last number (Ok older) = IsRecent (version_of last) number × IsOlder last number older
GivesOlder last number (Err Unknown) = IsUnknown (version_of last) number
GivesOlder last number (Err Gone) = IsGone (version_of last) number
GivesOlder last number (Err OutOfMemory) = IsRecent (version_of last) number

-- a version that is kept: its number, how many refreshes were tried by then, and its tables
pub record KeptState : Type 0 where
  pub number : ℕ
  pub done : ℕ
  pub state : State

-- it is a version of the same base and list
abbrev pub IsVersionOf : Trials → KeptState → Type 0
IsVersionOf trials kept = HasKept (record trials { done = kept.done }) kept.number kept.state

-- it is one of the 63 versions before that of a number
abbrev pub is_kept_at : ℕ → KeptState → Bool
is_kept_at number kept = nat_lt kept.number number && nat_lt number (kept.number + 64)

-- what a directory keeps beside its view: its own version, and earlier ones
pub record HasHistory (trials : Trials) (number : ℕ) (state : State) (before : List KeptState)
    : Type 0 where
  pub last : HasKept trials number state
  pub earlier : All (IsVersionOf trials) before
