-- A turn of a feed of a list.
use Rattle.std.proofs.Common.{◌≡◌, ℕ, ◌+◌, ◌<◌, List, [], ◌∷◌, ◌++◌, Some, None, length, take, drop, get_or, refl, sym, ap, subst, ◌∙◌, arith, inl, inr, length-drop}
use Rattle.std.specs.Prelude.{slice_get}
use Rattle.std.proofs.lemmas.List.{get_or-drop, map-append, take_more}
use Rattle.std.proofs.lemmas.Option.{get_or_from_slice_get, slice_get_cases}
use Rattle.base_refusals.specs.declared.refresh.Cause.{Cause}
use Rattle.store_state.specs.Refresh.{Change}
use Rattle.store_versions.specs.Trials.{Trials}
use Rattle.store_versions.specs.declared.attachment.Attachment.{Ghosts}
use Rattle.store_snapshots.specs.Publishers.{Edition, Shows, Tries}
use Rattle.store_snapshots.specs.Turns.{IsAllTried, ListFits, TakesTurn, from_nobody, list_tried}
use Rattle.store_snapshots.specs.declared.note.Note.{Note}
use Rattle.store_snapshots.specs.declared.publisher.Published.TheVariants as answer
use Rattle.store_snapshots.specs.declared.feed.FeedTurn.TheVariants as turn

next_change : (list : List Change) (place : ℕ) → place < length list → (change : Change) × (slice_get list place ≡ Some change)
next_change list place less = elim (slice_get_cases list place).1 [
  | inl (x, lt, some, at) ↦ (x, some)
  | inr (past, none) ↦ absurd (omega (arith, less, past))
]

-- one refresh more was tried
list_more : (start : Trials) (count : ℕ) (change : Change) → start.done + count < length start.list → slice_get start.list (start.done + count) ≡ Some change
    → list_tried start (count + 1) ≡ list_tried start count ++ (None, change) ∷ []
list_more start count change less at =
    let rest = drop start.done start.list in
    let len = length-drop start.done start.list in
    let here : count < length rest = omega (arith, len, less) in
    let is : get_or rest count change ≡ change =
    get_or-drop start.done start.list count change ∙ get_or_from_slice_get start.list (start.done + count) change change at in
    ap from_nobody (take_more rest count change here ∙ ap (λ c. take count rest ++ c ∷ []) is)
    ∙ map-append (λ c. (None, c)) (take count rest) (change ∷ [])

-- the next refresh of the list, and what was tried once it is
pub next_tried : (start : Trials) (count : ℕ) (version : Trials) → ListFits start count version → version.done < length version.list
    → (change : Change) × (slice_get version.list version.done ≡ Some change) × (list_tried start (count + 1) ≡ list_tried start count ++ (None, change) ∷ [])
next_tried start count version fits less =
    let next = next_change version.list version.done less in
    let at : slice_get start.list (start.done + count) ≡ Some next.0 = (λ i. slice_get (sym fits.list i) (sym fits.done i)) ∙ next.1 in
    let there = subst (λ (y : ℕ × List Change). y.0 < length y.1) (λ i. (fits.done i, fits.list i)) less in
    (next.0, next.1, list_more start count next.0 there at)

pub turn_published : {A : Type 0} {g : Ghosts A} (start : Trials) (count : ℕ) (old new : Edition) (note : Note A g) → ListFits start count old.version → Tries old.version new.version (answer.Published note) → Shows old new (answer.Published note)
    → TakesTurn (list_tried start count) (list_tried start (count + 1)) IsAllTried old new (turn.Published None note)
turn_published start count old new note fits tries shows =
    let next = next_tried start count old.version fits tries.0 in
    (next.0, old.version, next.2, inl (refl, tries.0, next.1), record { after = tries.1; shown = shows; tells = tries.2 })

pub turn_refused : (A : Type 0) (g : Ghosts A) (start : Trials) (count : ℕ) (old new : Edition) (cause : Cause) → ListFits start count old.version → Tries {A = A} {g = g} old.version new.version (answer.Refused cause) → Shows {A = A} {g = g} old new (answer.Refused cause)
    → TakesTurn {A = A} {g = g} (list_tried start count) (list_tried start (count + 1)) IsAllTried old new (turn.Refused None cause)
turn_refused A g start count old new cause fits tries shows =
    let next = next_tried start count old.version fits tries.0 in
    (next.0, old.version, next.2, inl (refl, tries.0, next.1), record { after = tries.1; shown = shows })
