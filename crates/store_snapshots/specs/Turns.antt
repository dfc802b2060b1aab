-- What a turn of a feed does.
use Rattle.std.specs.Prelude.{◌≡◌, ◌⊎◌, ℕ, ◌+◌, ◌<◌, List, [], ◌∷◌, ◌++◌, Option, Some, None}
use Rattle.std.specs.Prelude.{drop, length, map, slice_get, take}
use Rattle.store_state.specs.Refresh.{Change}
use Rattle.store_versions.specs.Trials.{Trials, offered}
use Rattle.store_versions.specs.declared.attachment.Attachment.{Ghosts}
use Rattle.store_snapshots.specs.Publishers.{AcceptsNext, Edition, RefusesNext}
use Rattle.store_snapshots.specs.declared.feed.FeedTurn.{FeedTurn}
use Rattle.store_snapshots.specs.declared.feed.FeedTurn.TheVariants.{Published, Refused}
use Rattle.store_snapshots.specs.declared.feed.FeedTurn.TheVariants.{Idle, Ended}

-- The refresh is the next one of these trials. They are the version itself, where it is its list's
-- next; or all of the list is done, and they are the version with the refresh at its list's end.
abbrev pub IsNextIn : Change → Trials → Trials → Type 0
IsNextIn change version trials =
    ((trials ≡ version) × (version.done < length version.list)
    × (slice_get version.list version.done ≡ Some change))
    ⊎ ((trials ≡ offered change version) × (version.done ≡ length version.list))

-- What a turn does, by the refreshes that the feed tried before and after, each with its sender, by
-- whether its source then stands at its end, and by the publisher before and after: one refresh is
-- tried, which is accepted or refused; or none, and the source doesn't stand at its end; or none,
-- since it does, and all of the list is done.
abbrev pub TakesTurn : {A : Type 0} {g : Ghosts A} → List (Option ℕ × Change)
    → List (Option ℕ × Change) → (Trials → Type 0) → Edition → Edition → FeedTurn A g → Type 0
TakesTurn tried more over old new (Published from note) = (change : Change) × (trials : Trials)
    × (more ≡ tried ++ (from, change) ∷ []) × IsNextIn change old.version trials
    × AcceptsNext trials new note
TakesTurn tried more over old new (Refused from cause) = (change : Change) × (trials : Trials)
    × (more ≡ tried ++ (from, change) ∷ []) × IsNextIn change old.version trials
    × RefusesNext trials cause old.shown new
TakesTurn tried more over old new Idle = (more ≡ tried) × (new ≡ old) × (over new.version → ⊥)
TakesTurn tried more over old new Ended = (more ≡ tried) × (new ≡ old) × over new.version
    × (new.version.done ≡ length new.version.list)

-- refreshes that no sender sent
abbrev pub from_nobody : List Change → List (Option ℕ × Change)
from_nobody changes = map (λ change. (None, change)) changes

-- what a feed of a version's list has tried after so many turns
abbrev pub list_tried : Trials → ℕ → List (Option ℕ × Change)
list_tried start count = from_nobody (take count (drop start.done start.list))

-- a publisher of the version fits it
pub record ListFits (start : Trials) (count : ℕ) (version : Trials) : Type 0 where
  pub list : version.list ≡ start.list
  pub done : version.done ≡ start.done + count

-- each refresh of the version's list was tried
abbrev pub IsAllTried : Trials → Type 0
IsAllTried version = version.done ≡ length version.list
