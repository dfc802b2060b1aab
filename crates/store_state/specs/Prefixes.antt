-- Lists that begin with others, and versions under them.
use Rattle.std.specs.Prelude.{◌≡◌, ℕ, ◌≤◌, List, ◌++◌, length}
use Rattle.base_schema.specs.State.{State}
use Rattle.store_state.specs.Refresh.{Change}
use Rattle.store_state.specs.Versions.{accepted, version_state}

-- the second list begins with the first
abbrev pub IsPrefix : {A : Type 0} → List A → List A → Type 0
IsPrefix {A} short long = (rest : List A) × (long ≡ short ++ rest)

-- of the first refreshes of a list as many are accepted in each list that begins with it
abbrev pub AcceptedPrefixLaw : Type 0
AcceptedPrefixLaw = (base : State) (short long : List Change) (done : ℕ)
    → IsPrefix short long → done ≤ length short
    → accepted base long done ≡ accepted base short done

-- a list has no fewer versions than one that it begins with
abbrev pub AcceptedLongerLaw : Type 0
AcceptedLongerLaw = (base : State) (short long : List Change)
    → IsPrefix short long
    → accepted base short (length short) ≤ accepted base long (length long)

-- the versions of a list are those of each list that begins with it
abbrev pub StatePrefixLaw : Type 0
StatePrefixLaw = (base : State) (short long : List Change) (version : ℕ)
    → IsPrefix short long → version ≤ accepted base short (length short)
    → version_state base long version ≡ version_state base short version
