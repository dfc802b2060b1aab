-- A row taken out of a table of groups, and one put in.
use Rattle.std.specs.Prelude.{◌≡◌, ℕ, List, Bool, false, true, not, length, Option, Some, None}
use Rattle.std.specs.Prelude.{◌<◌, ◌⊎◌}
use Rattle.base_value.specs.declared.value.Value.{Value}
use Rattle.store_groups.specs.Groups.{Group, is_faultless, no_rows, with_row, without_row}
use Rattle.store_groups.specs.Entries.{Entries, group_at, or_empty}
use Rattle.store_kept_views.specs.Standing.{is_stale}
use Rattle.store_groups.specs.Taken.{IsSet}

-- a row of these arguments is out of the group of a key: there is none; or the group of the others
-- is left; or no row is left; or the group held a fault, and its key is noted
pub record IsLeft (k arguments : List Value) (g : Group) (old new stale more : Entries) : Type 0
  where
    pub faultless : is_faultless g ≡ true
    pub some : 0 < (without_row g arguments).rows
    pub set : IsSet k (Some (without_row g arguments)) old new
    pub same : more ≡ stale

pub record IsGone (k arguments : List Value) (g : Group) (old new stale more : Entries) : Type 0
  where
    pub faultless : is_faultless g ≡ true
    pub none : (without_row g arguments).rows ≡ 0
    pub set : IsSet k None old new
    pub same : more ≡ stale

pub record IsDropped (k : List Value) (g : Group) (old new stale more : Entries) : Type 0 where
  pub faulty : is_faultless g ≡ false
  pub set : IsSet k None old new
  pub noted : IsSet k (Some (no_rows 0)) stale more

abbrev pub IsTakenOut : List Value → List Value → Option Group → Entries → Entries → Entries
    → Entries → Type 0
IsTakenOut k arguments None old new stale more = IsSet k None old new × (more ≡ stale)
IsTakenOut k arguments (Some g) old new stale more = IsLeft k arguments g old new stale more
    ⊎ (IsGone k arguments g old new stale more ⊎ IsDropped k g old new stale more)

-- a row of these arguments and of this standing is in the group of a key, if the key is wanted
pub record IsPut (k arguments : List Value) (standing : ℕ) (wanted : Bool) (stale old new : Entries)
    : Type 0 where
  pub put : is_stale stale k ≡ wanted → IsSet k
      (Some (with_row (or_empty (length arguments) (group_at old k)) arguments standing)) old new
  pub passed : is_stale stale k ≡ not wanted → new ≡ old
