-- The accepted refreshes once one more is tried.
use Rattle.std.proofs.Common.{◌≡◌, inl, inr, ℕ, zero, suc, ◌+◌, ◌≤◌, ◌<◌, Bool, true, false, cond, List, [], ◌∷◌, ◌++◌, length, map, take, refl, sym, ap, ◌∙◌, subst, arith, length-append, Option, Some, None, Err}
use Rattle.std.specs.Prelude.{is_none, is_ok, slice_get}
use Rattle.std.proofs.lemmas.Bool.{cases_lt, lt-ltb, le-ltb}
use Rattle.std.proofs.lemmas.List.{append-nil, take_all}
use Rattle.base_refusals.specs.declared.refresh.Cause.{Cause}
use Rattle.base_schema.specs.State.{State}
use Rattle.store_refresh_entries.specs.Change.{IsReadable, IsStorable, spelling_of}
use Rattle.store_state.specs.Refresh.{Change, DeleteKeys, InsertRows, MalformedFile, after, cause_of, changed, unless_cause}
use Rattle.store_state.specs.Versions.{is_accepted, replayed, taken}
use Rattle.store_state.proofs.VersionSteps.{state-accepted, taken-append}
use Rattle.store_versions.specs.Trials.{Trials, offered, one_more, tables_of}
use Rattle.store_versions.proofs.Longer.{tables_longer}
use Rattle.store_durability.specs.Stored.{IsNext, accepted_list, payloads_of, trials_with}

-- lists

next_of : (list : List Change) (place : ℕ) (change : Change) → slice_get list place ≡ Some change → take (suc place) list ≡ take place list ++ change ∷ []
next_of [] place change at = absurd cc
next_of (x ∷ list) zero change at = ap (λ (c : Change). c ∷ []) cc
next_of (x ∷ list) (suc place) change at = ap (λ (l : List Change). x ∷ l) (next_of list place change at)

at_end : (list : List Change) (place : ℕ) (change : Change) → place ≡ length list → slice_get (list ++ change ∷ []) place ≡ Some change
at_end [] zero change e = refl
at_end [] (suc place) change e = absurd (omega (arith, e))
at_end (x ∷ list) zero change e = absurd (omega (arith, e))
at_end (x ∷ list) (suc place) change e = at_end list place change (omega (arith, e))

map-push : (changes : List Change) (change : Change) → map spelling_of (changes ++ change ∷ []) ≡ map spelling_of changes ++ spelling_of change ∷ []
map-push [] change = refl
map-push (x ∷ changes) change = ap (λ (l : List (List ℕ)). spelling_of x ∷ l) (map-push changes change)

-- the trials whose next refresh it is

pub record HasNext (change : Change) (old trials : Trials) : Type 0 where
  pub base : trials.base ≡ old.base
  pub next : slice_get trials.list trials.done ≡ Some change
  pub first : take (trials.done + 1) trials.list ≡ take old.done old.list ++ change ∷ []
  pub tables : tables_of trials ≡ tables_of old

pub listed : (change : Change) (trials : Trials) → trials.done < length trials.list → trials_with change trials ≡ trials
listed change trials left = ap (λ (b : Bool). cond b trials (offered change trials)) (lt-ltb trials.done (length trials.list) left)

pub given : (change : Change) (trials : Trials) → length trials.list ≤ trials.done → trials_with change trials ≡ offered change trials
given change trials none = ap (λ (b : Bool). cond b trials (offered change trials)) (le-ltb trials.done (length trials.list) none)

pub has_next : (change : Change) (trials : Trials) → trials.done ≤ length trials.list → IsNext change trials → HasNext change trials (trials_with change trials)
has_next change trials within next = elim (cases_lt trials.done (length trials.list)) [
  | inl left ↦ subst (HasNext change trials) (sym (listed change trials left)) (record {
    base = refl;
    next = next left;
    first = by_one trials.list trials.done ∙ next_of trials.list trials.done change (next left);
    tables = refl;
  })
  | inr none ↦ subst (HasNext change trials) (sym (given change trials none)) (record {
    base = refl;
    next = at_end trials.list trials.done change (omega (arith, within, none));
    first =
        take_all (trials.done + 1) (trials.list ++ change ∷ []) (omega (arith, none, length-append trials.list (change ∷ [])))
        ∙ ap (λ (l : List Change). l ++ change ∷ []) (sym (take_all trials.done trials.list none));
    tables = tables_longer trials change within;
  })
]
  where
    by_one : (list : List Change) (place : ℕ) → take (place + 1) list ≡ take (suc place) list
    by_one list place = let up : place + 1 ≡ suc place = omega arith in ap (λ (k : ℕ). take k list) up

-- the accepted ones, once it is tried

pub accepted_more : (change : Change) (trials : Trials) → trials.done ≤ length trials.list → IsNext change trials
    → accepted_list (one_more (trials_with change trials)) ≡ accepted_list trials ++ cond (is_accepted (tables_of trials) change) (change ∷ []) []
accepted_more change trials within next =
    let one = has_next change trials within next in
    let all = trials_with change trials in
    let first = take trials.done trials.list in
    let state = replayed trials.base (taken trials.base first) in
    ap (λ (b : State). taken b (take (all.done + 1) all.list)) one.base
    ∙ ap (λ (l : List Change). taken trials.base l) one.first
    ∙ taken-append trials.base first (change ∷ [])
    ∙ ap (λ (l : List Change). taken trials.base first ++ l) (append-nil (cond (is_accepted state change) (change ∷ []) []))
    ∙ ap (λ (s : State). taken trials.base first ++ cond (is_accepted s change) (change ∷ []) []) (sym (state-accepted trials.base trials.list trials.done))

pub payloads_accepted : (change : Change) (trials : Trials) → trials.done ≤ length trials.list → IsNext change trials → is_accepted (tables_of trials) change ≡ true
    → payloads_of (one_more (trials_with change trials)) ≡ payloads_of trials ++ spelling_of change ∷ []
payloads_accepted change trials within next e =
    ap (λ (l : List Change). map spelling_of l)
    (accepted_more change trials within next ∙ ap (λ (b : Bool). accepted_list trials ++ cond b (change ∷ []) []) e)
    ∙ map-push (accepted_list trials) change

pub payloads_refused : (change : Change) (trials : Trials) → trials.done ≤ length trials.list → IsNext change trials → is_accepted (tables_of trials) change ≡ false
    → payloads_of (one_more (trials_with change trials)) ≡ payloads_of trials
payloads_refused change trials within next e =
    ap (λ (l : List Change). map spelling_of l)
    (accepted_more change trials within next ∙ ap (λ (b : Bool). accepted_list trials ++ cond b (change ∷ []) []) e ∙ append-nil (accepted_list trials))

-- what a state says of a refresh

ok_by : (cause : Option Cause) (made : State) → is_ok (unless_cause cause made) ≡ true → is_none cause ≡ true
ok_by None made e = refl
ok_by (Some cause) made e = cc

pub accepted_ok : (state : State) (change : Change) → is_ok (after state change) ≡ true → is_accepted state change ≡ true
accepted_ok state change e = ok_by (cause_of state change) (changed state change) e

err_by : (cause : Option Cause) (made : State) (first : Cause) → unless_cause cause made ≡ Err first → is_none cause ≡ false
err_by None made first e = cc
err_by (Some cause) made first e = refl

pub refused_err : (state : State) (change : Change) (cause : Cause) → after state change ≡ Err cause → is_accepted state change ≡ false
refused_err state change cause e = err_by (cause_of state change) (changed state change) cause e

pub not_both : (b : Bool) → b ≡ true → b ≡ false → ⊥
not_both true e f = cc
not_both false e f = cc

-- an accepted refresh isn't malformed
pub readable : (state : State) (change : Change) → IsStorable change → is_ok (after state change) ≡ true → IsReadable change
readable state (InsertRows orders lineitems) fits e = fits
readable state (DeleteKeys keys) fits e = fits
readable state (MalformedFile file set refusal) fits e = cc
