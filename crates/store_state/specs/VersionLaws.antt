-- Laws of versions.
use Rattle.std.specs.Prelude.{◌≡◌, ℕ, ◌+◌, ◌≤◌, List, ◌++◌, length, take, Some, slice_get}
use Rattle.std.specs.Prelude.{if◌then◌else◌}
use Rattle.base_schema.specs.State.{State}
use Rattle.store_state.specs.Refresh.{Change}
use Rattle.store_state.specs.Versions.{accepted, is_accepted, replayed, taken, tried, version_state}

-- of two lists tried one after the other, the second is tried on what the first leaves
abbrev pub TakenAppendLaw : Type 0
TakenAppendLaw = (base : State) (first second : List Change)
    → taken base (first ++ second)
    ≡ taken base first ++ taken (replayed base (taken base first)) second

-- the version of a list's first refreshes is the base after those of them that are accepted
abbrev pub StateAcceptedLaw : Type 0
StateAcceptedLaw = (base : State) (list : List Change) (done : ℕ)
    → version_state base list (accepted base list done)
    ≡ replayed base (taken base (take done list))

-- nothing is accepted at first, and the first version is the base
abbrev pub FirstVersionLaw : Type 0
FirstVersionLaw = (base : State) (list : List Change)
    → (accepted base list 0 ≡ 0) × (version_state base list 0 ≡ base)

-- one more refresh counts where it is accepted in the state that those before it leave
abbrev pub AcceptedMoreLaw : Type 0
AcceptedMoreLaw = (base : State) (list : List Change) (done : ℕ) (change : Change)
    → slice_get list done ≡ Some change
    → accepted base list (done + 1) ≡ accepted base list done
    + (if is_accepted (version_state base list (accepted base list done)) change then 1 else 0)

-- one more refresh leaves the state that trying it there gives
abbrev pub StateMoreLaw : Type 0
StateMoreLaw = (base : State) (list : List Change) (done : ℕ) (change : Change)
    → slice_get list done ≡ Some change
    → version_state base list (accepted base list (done + 1))
    ≡ tried (version_state base list (accepted base list done)) change

-- trying more refreshes never lowers the number of accepted ones
abbrev pub AcceptedRisesLaw : Type 0
AcceptedRisesLaw = (base : State) (list : List Change) (done more : ℕ)
    → accepted base list done ≤ accepted base list (done + more)

-- no more are accepted than of the whole list
abbrev pub AcceptedMostLaw : Type 0
AcceptedMostLaw = (base : State) (list : List Change) (done : ℕ)
    → accepted base list done ≤ accepted base list (length list)
