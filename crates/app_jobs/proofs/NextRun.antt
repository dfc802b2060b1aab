-- What a run leaves in a journal, as the next run reads it.
use Rattle.std.proofs.Common.{◌≡◌, ◌≤◌, ◌∙◌, Bool, true, false, ℕ, List, [], ◌∷◌, Some, ap, inr, length, map, refl, subst, sym}
use Rattle.std.specs.List.{AllByRecursion}
use Rattle.std.specs.declared.result.Result.{Result}
use Rattle.std.specs.declared.result.Result.TheVariants.{Ok, Err}
use Rattle.base_schema.specs.State.{State}
use Rattle.store_journal.specs.Format.{StandsFor}
use Rattle.store_refresh_entries.specs.Change.{IsReadable, IsSpelled, IsStorable, spelling_of}
use Rattle.store_state.specs.Refresh.{Change, DeleteKeys, InsertRows, MalformedFile, changed}
use Rattle.store_state.specs.Versions.{is_accepted, taken}
use Rattle.app_inputs.specs.Inputs.{BadInput}
use Rattle.app_jobs.specs.Journals.{FileKeeps, IsKept, most_journal_bytes}
use Rattle.app_jobs.specs.Laws.{NextRunLaw}
use Rattle.app_jobs.proofs.KeptOnce.{never, one_kept}

taken_yes : (base : State) (change : Change) (rest : List Change) → is_accepted base change ≡ true → taken base (change ∷ rest) ≡ change ∷ taken (changed base change) rest
taken_yes base change rest e = rw e refl

taken_no : (base : State) (change : Change) (rest : List Change) → is_accepted base change ≡ false → taken base (change ∷ rest) ≡ taken base rest
taken_no base change rest e = rw e refl

-- all accepted ones are accepted again
taken_again : (base : State) (list : List Change) → taken base (taken base list) ≡ taken base list
taken_again base [] = refl
taken_again base (change ∷ list) = by (is_accepted base change) refl (λ state. taken_again state list)
  where
    by : (b : Bool) → is_accepted base change ≡ b → ((state : State) → taken state (taken state list) ≡ taken state list)
        → taken base (taken base (change ∷ list)) ≡ taken base (change ∷ list)
    by true e again =
        ap (taken base) (taken_yes base change list e) ∙ taken_yes base change (taken (changed base change) list) e
        ∙ ap (λ (l : List Change). change ∷ l) (again (changed base change)) ∙ sym (taken_yes base change list e)
    by false e again = ap (taken base) (taken_no base change list e) ∙ again base ∙ sym (taken_no base change list e)

-- an accepted one is read back
readable_one : (base : State) (change : Change) → is_accepted base change ≡ true → IsStorable change → IsReadable change
readable_one base (InsertRows orders lineitems) e storable = storable
readable_one base (DeleteKeys keys) e storable = storable
readable_one base (MalformedFile file set refusal) e storable = absurd (cc)

readable_taken : (base : State) (list : List Change) → AllByRecursion IsStorable list → AllByRecursion IsReadable (taken base list)
readable_taken base [] all = tt
readable_taken base (change ∷ list) all = by (is_accepted base change) refl (λ state. readable_taken state list all.1)
  where
    by : (b : Bool) → is_accepted base change ≡ b → ((state : State) → AllByRecursion IsReadable (taken state list)) → AllByRecursion IsReadable (taken base (change ∷ list))
    by true e rest = subst (AllByRecursion IsReadable) (sym (taken_yes base change list e)) (readable_one base change e all.0, rest (changed base change))
    by false e rest = subst (AllByRecursion IsReadable) (sym (taken_no base change list e)) (rest base)

read_as : (base : State) (name : List ℕ) (files : List ℕ → List ℕ) (list : List Change) (kept : Result (List Change) BadInput) → FileKeeps (files name) list → taken base list ≡ list
    → IsKept (Some name) base (Some files) kept → kept ≡ Ok list
read_as base name files list (Ok read) keeps all (same, accepted) = ap Ok (one_kept (files name) read list same keeps)
read_as base name files list (Err refused) keeps all (named, why) = absurd (never base (files name) list refused.fault keeps all why)

pub next_run : NextRunLaw
next_run name file base list files kept storable holds is short =
    let keeps : FileKeeps file (taken base list) = inr (holds, readable_taken base list storable, short) in
    let mine : FileKeeps (files name) (taken base list) = subst (λ (f : List ℕ). FileKeeps f (taken base list)) (sym is) keeps in (
      read_as base name files (taken base list) kept mine (taken_again base list),
      λ e. subst (IsKept (Some name) base (Some files)) (sym e) (mine, taken_again base list),
    )
