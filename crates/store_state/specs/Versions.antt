-- Versions: a base after the refreshes of a list, tried in order. Refused ones change nothing and
-- make no version.
use Rattle.std.specs.Prelude.{ℕ, Bool, List, [], ◌∷◌, ◌++◌, length, take, is_none, if◌then◌else◌}
use Rattle.std.specs.List.{fold}
use Rattle.base_schema.specs.State.{State}
use Rattle.store_state.specs.Refresh.{Change, cause_of, changed}

-- the refresh has no cause against it in a state
abbrev pub is_accepted : State → Change → Bool
is_accepted state change = is_none (cause_of state change)

-- a state after a refresh is tried: a refused one leaves it
abbrev pub tried : State → Change → State
tried state change = if is_accepted state change then changed state change else state

-- the accepted ones of a list of refreshes, each tried after those before it
abbrev pub taken : State → List Change → List Change
taken base [] = []
taken base (change ∷ changes) =
    (if is_accepted base change then change ∷ [] else []) ++ taken (tried base change) changes

-- a base after accepted refreshes, replayed one by one
abbrev pub replayed : State → List Change → State
replayed = fold changed

-- how many of the first n refreshes of a list are accepted
abbrev pub accepted : State → List Change → ℕ → ℕ
accepted base list done = length (taken base (take done list))

-- the state of version n: the base after the first n accepted refreshes of a list
abbrev pub version_state : State → List Change → ℕ → State
version_state base list version = replayed base (take version (taken base list))
