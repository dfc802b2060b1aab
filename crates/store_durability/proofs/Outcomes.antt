-- What comes of a refresh that is tried, by whether it is accepted.
use Rattle.std.proofs.Common.{◌≡◌, ◌↔◌, inl, inr, ℕ, ◌+◌, ◌<◌, ◌≤◌, Bool, true, false, not, cond, List, [], ◌∷◌, ◌++◌, length, refl, sym, ap, subst, ◌∙◌, Ok, Err}
use Rattle.std.specs.Prelude.{IsTrue, is_ok}
use Rattle.std.proofs.lemmas.Bool.{cases_lt}
use Rattle.base_refusals.specs.declared.refresh.Cause.{Cause}
use Rattle.base_schema.specs.State.{State}
use Rattle.store_journal.specs.declared.journal.Appended.{Appended}
use Rattle.store_journal.specs.declared.journal.Appended.TheVariants.{Failed, Stored}
use Rattle.store_journal.specs.Journal.{Stands, WithOrWithout, is_stored}
use Rattle.store_journal.proofs.Moments.{started}
use Rattle.base_disk.specs.Disk.{LeavesOnly}
use Rattle.store_refresh_entries.specs.Change.{IsReadable, IsSpelled, spelling_of}
use Rattle.store_snapshots.specs.Given.{TriesNext}
use Rattle.store_snapshots.specs.Publishers.{AcceptsNext, Edition, RefusesNext, Shows, Tries}
use Rattle.store_snapshots.specs.declared.note.Note.{Note}
use Rattle.store_snapshots.specs.declared.publisher.Given.{Given}
use Rattle.store_snapshots.specs.declared.publisher.Published.TheVariants as answer
use Rattle.store_state.specs.Refresh.{Change, after}
use Rattle.store_state.specs.Versions.{is_accepted}
use Rattle.store_state.specs.declared.applied.RefreshError.TheVariants.{Refused as RefusedBy}
use Rattle.store_versions.specs.Trials.{IsAfter, Trials, offered, one_more, tables_of}
use Rattle.store_versions.specs.declared.attachment.Attachment.{Ghosts}
use Rattle.store_durability.specs.Stored.{IsNext, payloads_of, trials_with}
use Rattle.store_durability.proofs.Accepted.{accepted_ok, given, has_next, listed, not_both, payloads_accepted, payloads_refused, readable, refused_err}

-- a trial of the list's own next refresh

pub listed_accepts : {A : Type 0} {g : Ghosts A} (old new : Edition) (note : Note A g) → Tries old.version new.version (answer.Published note) → Shows old new (answer.Published note) → AcceptsNext old.version new note
listed_accepts old new note tries shows = record { after = tries.1; shown = shows; tells = tries.2 }

pub listed_refuses : (old new : Edition) (cause : Cause) → (old.version.done < length old.version.list) × IsAfter old.version new.version (Err (RefusedBy cause)) → new.shown ≡ old.shown → RefusesNext old.version cause old.shown new
listed_refuses old new cause tries shows = record { after = tries.1; shown = shows }

pub ruleset listed_trials = (listed_accepts, listed_refuses)

-- a trial of the list's next refresh, or of one at its end, is one of the trials that have it next

pub left_tries : {A : Type 0} {g : Ghosts A} (change : Change) (old new : Edition) (told : Given A g) → old.version.done < length old.version.list → TriesNext old.version old new told
    → TriesNext (trials_with change old.version) old new told
left_tries change old new told left tries = subst (λ (t : Trials). TriesNext t old new told) (sym (listed change old.version left)) tries

pub end_tries : {A : Type 0} {g : Ghosts A} (change : Change) (old new : Edition) (told : Given A g) → length old.version.list ≤ old.version.done → TriesNext (offered change old.version) old new told
    → TriesNext (trials_with change old.version) old new told
end_tries change old new told none tries = subst (λ (t : Trials). TriesNext t old new told) (sym (given change old.version none)) tries

-- no refresh of the list is left
pub none_left : (left : Bool) (done count : ℕ) → (IsTrue left ↔ (done < count)) → left ≡ false → count ≤ done
none_left left done count both none = elim (cases_lt done count) [
  | inl less ↦ let some : left ≡ true = both.1 less in let bad : true ≡ false = sym some ∙ none in absurd cc
  | inr past ↦ past
]

pub ruleset either_trial = (left_tries, end_tries)

module _ (change : Change) (old : Trials) (within : old.done ≤ length old.list) (next : IsNext change old) where
  -- an accepted refresh

  pub accepted_payloads : {A : Type 0} {g : Ghosts A} (new : Edition) (note : Note A g) → is_accepted (tables_of old) change ≡ true → AcceptsNext (trials_with change old) new note
      → payloads_of new.version ≡ payloads_of old ++ spelling_of change ∷ []
  accepted_payloads new note e accepts =
      let is : new.version ≡ one_more (trials_with change old) = accepts.after.0 in
      ap (λ (t : Trials). payloads_of t) is ∙ payloads_accepted change old within next e

  pub told_cause : (cause : Cause) (shown : Trials) (new : Edition) → RefusesNext (trials_with change old) cause shown new → after (tables_of old) change ≡ Err cause
  told_cause cause shown new refuses =
      let one = has_next change old within next in
      ap (λ (s : State). after s change) (sym one.tables) ∙ refuses.after.3 change one.next

  pub not_refused : (cause : Cause) (shown : Trials) (new : Edition) → is_accepted (tables_of old) change ≡ true → RefusesNext (trials_with change old) cause shown new → ⊥
  not_refused cause shown new e refuses =
      not_both (is_accepted (tables_of old) change) e (refused_err (tables_of old) change cause (told_cause cause shown new refuses))

  -- a refused one

  pub refused_payloads : (cause : Cause) (shown : Trials) (new : Edition) → is_accepted (tables_of old) change ≡ false → RefusesNext (trials_with change old) cause shown new
      → payloads_of new.version ≡ payloads_of old
  refused_payloads cause shown new e refuses =
      let is : new.version ≡ one_more (trials_with change old) = refuses.after.0 in
      ap (λ (t : Trials). payloads_of t) is ∙ payloads_refused change old within next e

  pub not_accepted : {A : Type 0} {g : Ghosts A} (new : Edition) (note : Note A g) → is_accepted (tables_of old) change ≡ false → AcceptsNext (trials_with change old) new note → ⊥
  not_accepted new note e accepts =
      let one = has_next change old within next in
      let made : after (tables_of old) change ≡ Ok (tables_of new.version) = ap (λ (s : State). after s change) (sym one.tables) ∙ accepts.after.3 change one.next in
      not_both (is_accepted (tables_of old) change) (accepted_ok (tables_of old) change (ap is_ok made)) e

pub ruleset accepted_trial = (accepted_payloads, not_refused)

pub ruleset refused_trial = (refused_payloads, told_cause, not_accepted)

-- what an append leaves, by its answer

pub stored_works : (answer : Appended) (shut : Bool) → shut ≡ not (is_stored answer) → answer ≡ Stored → shut ≡ false
stored_works answer shut is stored = is ∙ ap (λ (a : Appended). not (is_stored a)) stored

pub failed_shuts : (answer : Appended) (shut : Bool) → shut ≡ not (is_stored answer) → answer ≡ Failed → shut ≡ true
failed_shuts answer shut is failed = is ∙ ap (λ (a : Appended). not (is_stored a)) failed

pub stored_end : (answer : Appended) (new old more : ℕ) → new ≡ cond (is_stored answer) (old + more) old → answer ≡ Stored → new ≡ old + more
stored_end answer new old more is stored = is ∙ ap (λ (a : Appended). cond (is_stored a) (old + more) old) stored

-- a refresh that is read back is an entry
pub spelled : (change : Change) → IsReadable change → IsSpelled (spelling_of change)
spelled change reads = (change, reads, refl)

-- a disk that isn't touched leaves what it might have left
pub untouched_leaves : {D : Type 0} (moment : D → ℕ) (left_since : D → ℕ → List ℕ → Type 0) (may_leave : D → List ℕ → Type 0) (disk : D) (ps : List (List ℕ)) (p : List ℕ) (end : ℕ)
    → Stands IsSpelled (may_leave disk) ps end → ((c : List ℕ) → left_since disk (moment disk) c → may_leave disk c) → LeavesOnly moment left_since disk disk (WithOrWithout IsSpelled ps p)
untouched_leaves moment left_since may_leave disk ps p end stands only = started moment left_since disk (WithOrWithout IsSpelled ps p) (λ c left. inl (stands.images c (only c left)))

pub ruleset outcomes = (accepted_ok, readable, refused_err, spelled, stored_works, failed_shuts, stored_end, untouched_leaves)
