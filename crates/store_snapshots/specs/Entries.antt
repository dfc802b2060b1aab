-- What an entry says.
use Rattle.std.specs.Prelude.{◌≡◌, ℕ, ◌≤◌, List}
use Rattle.std.specs.Arc.{arc_value}
use Rattle.store_state.specs.Refresh.{Change}
use Rattle.store_state.specs.Prefixes.{IsPrefix}
use Rattle.store_versions.specs.Trials.{Trials, version_of}
use Rattle.store_snapshots.specs.Openings.{AllBegin, Opening, IsOf, HasRisen}
use Rattle.store_snapshots.specs.declared.entry.Entered.{Entered}
use Rattle.store_snapshots.specs.declared.entry.Entered.TheVariants.{Share, Refused, OutOfMemory}

-- A version of that opening is entered, by the lists that fit before and after: its list begins
-- with each list that was seen before, and is itself one that was seen from then on.
pub record IsEntered (opening : Opening) (fits new : List Change → Type 0) (version : Trials)
    : Type 0 where
  pub opened : IsOf opening version
  pub begins : fits version.list
  pub seen : new version.list
  pub added : AllBegin new version.list

-- of an opening, with the lists that fit before and after, the number before and after, the entries
-- before and after, and the refusals before and after: a share is entered and of the new number,
-- and only the entries rose; of a refusal only the refusals rose; out of memory may have raised the
-- number alone
abbrev pub Enters : {A : Type 0} → Opening → (List Change → Type 0) → (List Change → Type 0) → ℕ
    → ℕ → ℕ → ℕ → ℕ → ℕ → Entered A → Type 0
Enters opening fits narrow number new entries more refusals others (Share share) =
    IsEntered opening fits narrow (arc_value share) × (version_of (arc_value share) ≡ new)
    × (number ≤ new) × HasRisen entries more × (others ≡ refusals)
Enters opening fits narrow number new entries more refusals others Refused =
    (new ≡ number) × (more ≡ entries) × HasRisen refusals others
Enters opening fits narrow number new entries more refusals others OutOfMemory =
    (number ≤ new) × (more ≡ entries) × (others ≡ refusals)

-- what one entry of a reader tells, with the list that it saw last before and after
abbrev pub PassesUncounted : {A : Type 0} → Opening → List Change → List Change → Entered A → Type 0
PassesUncounted opening old new (Share share) = IsOf opening (arc_value share)
    × IsPrefix old (arc_value share).list × (new ≡ (arc_value share).list)
PassesUncounted opening old new Refused = new ≡ old
PassesUncounted opening old new OutOfMemory = IsPrefix old new
