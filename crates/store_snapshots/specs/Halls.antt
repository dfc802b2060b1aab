-- What a hall makes.
use Rattle.std.specs.Prelude.{◌≡◌, ◌⊎◌, ℕ, ◌<◌, ◌≤◌, List, length, slice_index_or}
use Rattle.left_right.specs.declared.Absorb as absorb
use Rattle.store_state.specs.Refresh.{Change}
use Rattle.store_versions.specs.Trials.{Trials}
use Rattle.store_versions.specs.declared.directory.Directory.{Directory}
use Rattle.store_snapshots.specs.Openings.{AllBegin, Opening, HasRisen, opening_at}
use Rattle.store_snapshots.specs.Rule.{on_shelf}
use Rattle.store_snapshots.specs.Seen.{ReaderState}
use Rattle.store_snapshots.specs.declared.hall.Another.{Another}
use Rattle.store_snapshots.specs.declared.ruled_hall.RuledHall.{RuledHall}
use Rattle.store_snapshots.specs.declared.shelf.Shelf.{Shelf}
use Rattle.store_snapshots.specs.declared.hall.Another.TheVariants.{Made, Refused}

-- the version that a hall shows
abbrev pub shown_in : {A : Type 0} {k : absorb.Ghosts (Shelf A) (Shelf A) (Directory A)}
    → RuledHall A k → Trials
shown_in hall = on_shelf hall.writer.desk.shown.value

-- by the openings, the lists that fit and the numbers of entries, of the version that is shown,
-- with the refusals before and after: an entry of that opening and of number 0, which has seen that
-- list, and no refusal more; or none, and the refusals rose
abbrev pub MakesEntry : {E : Type 0} → (E → Opening) → (E → List Change → Type 0) → (E → ℕ) → Trials
    → ℕ → ℕ → Another E → Type 0
MakesEntry opening fits number shown refused more (Made entry) = (opening entry ≡ opening_at shown)
    × AllBegin (fits entry) shown.list × (number entry ≡ 0) × (more ≡ refused)
MakesEntry opening fits number shown refused more Refused = HasRisen refused more

-- each reader is of the version's opening, and has seen that version
abbrev pub AreSeated : {E : Type 0} → (E → Opening) → Trials → List (ReaderState E) → Type 0
AreSeated {E} opening shown readers =
    (i : ℕ) (r : ReaderState E) → i < length readers
    → (opening (slice_index_or readers i r).entry ≡ opening_at shown)
    × ((slice_index_or readers i r).seen ≡ shown)

-- each list that fits a reader's entry begins with that of the version that the reader has seen
abbrev pub HaveSeenLists : {E : Type 0} → (E → List Change → Type 0) → List (ReaderState E) → Type 0
HaveSeenLists {E} fits readers =
    (i : ℕ) (r : ReaderState E) → i < length readers
    → AllBegin (fits (slice_index_or readers i r).entry) (slice_index_or readers i r).seen.list

-- as many readers as wanted; fewer, but one, only where the refusals rose
abbrev pub SeatsEnough : ℕ → ℕ → ℕ → ℕ → Type 0
SeatsEnough want count refused more = (1 ≤ count) × (count ≤ want)
    × ((count ≡ want) ⊎ HasRisen refused more)
