-- A stored turn as one of a feed of the list.
use Rattle.std.proofs.Common.{◌≡◌, ℕ, ◌+◌, ◌<◌, List, ◌++◌, ◌∷◌, [], None, length, refl, ap, ◌∙◌, arith, inl}
use Rattle.std.specs.Prelude.{Option}
use Rattle.base_refusals.specs.declared.refresh.Cause.{Cause}
use Rattle.store_state.specs.Refresh.{Change}
use Rattle.store_versions.specs.Trials.{Trials, one_more}
use Rattle.store_versions.specs.declared.attachment.Attachment.{Ghosts}
use Rattle.store_snapshots.specs.Publishers.{AcceptsNext, Edition, RefusesNext}
use Rattle.store_snapshots.specs.Turns.{IsAllTried, IsNextIn, ListFits, TakesTurn, list_tried}
use Rattle.store_snapshots.specs.declared.note.Note.{Note}
use Rattle.store_snapshots.specs.declared.feed.FeedTurn.TheVariants as turn
use Rattle.store_snapshots.proofs.FeedLaws.{next_tried}

pub list_published : {A : Type 0} {g : Ghosts A} (start : Trials) (count : ℕ) (old new : Edition) (note : Note A g) → ListFits start count old.version → old.version.done < length old.version.list → AcceptsNext old.version new note
    → TakesTurn (list_tried start count) (list_tried start (count + 1)) IsAllTried old new (turn.Published None note)
list_published start count old new note fits less accepts =
    let next = next_tried start count old.version fits less in
    (next.0, old.version, next.2, inl (refl, less, next.1), accepts)

-- what `TakesTurn` says of a refused one, whatever is attached
abbrev pub TakesRefused : List (Option ℕ × Change) → List (Option ℕ × Change) → Cause → Edition → Edition → Type 0
TakesRefused tried more cause old new = (change : Change) × (trials : Trials) × (more ≡ tried ++ (None, change) ∷ []) × IsNextIn change old.version trials × RefusesNext trials cause old.shown new

pub list_refused : (start : Trials) (count : ℕ) (old new : Edition) (cause : Cause) → ListFits start count old.version → old.version.done < length old.version.list
    → RefusesNext old.version cause old.shown new
    → TakesRefused (list_tried start count) (list_tried start (count + 1)) cause old new
list_refused start count old new cause fits less refuses =
    let next = next_tried start count old.version fits less in
    (next.0, old.version, next.2, inl (refl, less, next.1), refuses)

pub list_fits_more : (start : Trials) (count : ℕ) (old new : Trials) → ListFits start count old → new ≡ one_more old → ListFits start (count + 1) new
list_fits_more start count old new fits is =
    let done : new.done ≡ old.done + 1 = ap (λ (t : Trials). t.done) is in
    let was = fits.done in
    record { list = ap (λ (t : Trials). t.list) is ∙ fits.list; done = omega (arith, done, was) }

pub ruleset list_turns = (list_published, list_refused, list_fits_more)
