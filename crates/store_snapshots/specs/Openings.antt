-- What the versions of a reader are of.
use Rattle.std.specs.Prelude.{◌≡◌, ℕ, ◌+◌, ◌-◌, ◌^◌, ◌≤◌, true, List, Option, Some, is_some, length}
use Rattle.std.specs.Prelude.{min, take}
use Rattle.std.specs.Option.{ForSome}
use Rattle.base_schema.specs.State.{State}
use Rattle.store_state.specs.Refresh.{Change}
use Rattle.store_state.specs.Prefixes.{IsPrefix}
use Rattle.store_versions.specs.Trials.{Trials}

-- a base, a list of refreshes, and how many the list will have in the end, once they are named
abbrev pub Opening : Type 0
Opening = Option (State × List Change × ℕ)

-- the opening of a version
abbrev pub opening_at : Trials → Opening
opening_at version = Some (version.base, version.list, version.most)

-- the version has that base and that number, and its list begins with that list
abbrev pub IsOf : Opening → Trials → Type 0
IsOf opening version = ForSome opening
    (λ o. (version.base ≡ o.0) × IsPrefix o.1 version.list × (version.most ≡ o.2))

-- the same, by the first refreshes of the version's list
abbrev pub HasOpening : Opening → Trials → Type 0
HasOpening opening version = ForSome opening (λ o. (version.base ≡ o.0)
    × (take (length o.1) version.list ≡ o.1) × (version.most ≡ o.2))

-- the opening is named, and its list has so many refreshes
abbrev pub IsNamed : Opening → ℕ → Type 0
IsNamed opening count =
    (is_some opening ≡ true) × ForSome opening (λ o. count ≡ length o.1)

-- two versions are of one opening, whose list has so many refreshes
abbrev pub AreOfOne : ℕ → Trials → Trials → Type 0
AreOfOne count before now = (opening : Opening) × IsNamed opening count
    × IsOf opening before × IsOf opening now

-- each list that fits now did so before
abbrev pub Narrower : (List Change → Type 0) → (List Change → Type 0) → Type 0
Narrower old new = (list : List Change) → new list → old list

-- each list that fits begins with this one
abbrev pub AllBegin : (List Change → Type 0) → List Change → Type 0
AllBegin fits short = (list : List Change) → fits list → IsPrefix short list

-- a count rose, or stands at its last value
abbrev pub HasRisen : ℕ → ℕ → Type 0
HasRisen before now = min (before + 1) (2 ^ 64 - 1) ≤ now
