-- The first refreshes of a list, tried on a base.
use Rattle.std.specs.Prelude.{◌≡◌, ℕ, ◌+◌, ◌≤◌, List, [], ◌∷◌, ◌++◌, length, Result, Ok, Err}
use Rattle.std.specs.Prelude.{slice_get, Some}
use Rattle.base_schema.specs.State.{State}
use Rattle.store_state.specs.Refresh.{Change, after}
use Rattle.store_state.specs.Versions.{accepted, version_state}
use Rattle.store_state.specs.declared.applied.RefreshError.{RefreshError}
use Rattle.store_state.specs.declared.applied.RefreshError.TheVariants.{Refused, OutOfMemory}

-- a base, a list of refreshes, how many of them were tried, and how many the list has in the end
pub record Trials : Type 0 where
  pub base : State
  pub list : List Change
  pub done : ℕ
  pub most : ℕ

-- the first refreshes of this list, tried on this base
abbrev pub trials_at : State → List Change → ℕ → ℕ → Trials
trials_at base list done most = record { base = base; list = list; done = done; most = most }

-- how many of the tried refreshes were accepted
abbrev pub version_of : Trials → ℕ
version_of trials = accepted trials.base trials.list trials.done

-- the state after them
abbrev pub tables_of : Trials → State
tables_of trials = version_state trials.base trials.list (version_of trials)

-- one more refresh was tried
abbrev pub one_more : Trials → Trials
one_more trials = record trials { done = trials.done + 1 }

-- one more refresh stands at the end of the list
abbrev pub offered : Change → Trials → Trials
offered change trials = record trials { list = trials.list ++ change ∷ [] }

-- what a directory keeps beside that
pub record HasKept (trials : Trials) (number : ℕ) (state : State) : Type 0 where
  pub within : trials.done ≤ length trials.list
  pub short : length trials.list ≤ trials.most
  pub counted : number ≡ version_of trials
  pub few : number ≤ trials.done
  pub left : state ≡ tables_of trials

-- what comes of the next refresh: the version after it, which leaves this one; or its first cause,
-- by which only the number of tried refreshes rises; out of memory leaves all
abbrev pub IsAfter : Trials → Trials → Result Trials RefreshError → Type 0
IsAfter old new (Ok next) =
    (next ≡ one_more old) × (version_of next ≡ version_of old + 1) × (new ≡ old)
    × ((change : Change) → slice_get old.list old.done ≡ Some change
    → after (tables_of old) change ≡ Ok (tables_of next))
IsAfter old new (Err (Refused cause)) =
    (new ≡ one_more old) × (version_of new ≡ version_of old) × (tables_of new ≡ tables_of old)
    × ((change : Change) → slice_get old.list old.done ≡ Some change
    → after (tables_of old) change ≡ Err cause)
IsAfter old new (Err OutOfMemory) = new ≡ old

-- what trying the next refresh gives: the state that it leaves, or its first cause
abbrev pub Leaves : Trials → Result State RefreshError → Type 0
Leaves trials (Ok state) =
    (change : Change) → slice_get trials.list trials.done ≡ Some change
    → after (tables_of trials) change ≡ Ok state
Leaves trials (Err (Refused cause)) =
    (change : Change) → slice_get trials.list trials.done ≡ Some change
    → after (tables_of trials) change ≡ Err cause
Leaves trials (Err OutOfMemory) = Unit {0}
